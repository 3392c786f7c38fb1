use Prim.Native.Nat.{◌-◌, ◌≤◌}
use mathlib.Core.Path.{◌≡◌}
use lib.Seq.{slice}
use Rattle.sheet.specs.Sheets.{find}
use Rattle.sheet.proofs.find.Given as goal

abbrev pub invariant-loop-p : goal.invariant-loop-p
invariant-loop-p l = (l.p ≤ l.e) × (find l.tag l.p 0 (slice l.p l.e l.s) ≡ find l.tag l.from 0 (slice l.from l.e l.s))

abbrev pub decreases-loop-p : goal.decreases-loop-p
decreases-loop-p l = l.e - l.p
