use Prim.Native.Nat.{◌-◌, ◌≤◌, ◌<◌}
use lib.ListN.{length}
use Rattle.script.proofs.Sums.{Pieces}
use Rattle.script.proofs.rows.sum.Given as goal

abbrev pub invariant-loop-p : goal.invariant-loop-p
invariant-loop-p l = Pieces l.s l.total l.p × (l.p ≤ length l.s) × (l.total < 65521)

abbrev pub decreases-loop-p : goal.decreases-loop-p
decreases-loop-p l = length l.s - l.p
