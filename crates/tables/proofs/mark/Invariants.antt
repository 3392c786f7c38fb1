use Prim.Native.Nat.{◌-◌, ◌≤◌}
use Rattle.tables.specs.Compact.{Marked}
use Rattle.tables.proofs.mark.Given as goal

abbrev pub invariant-loop-i : goal.invariant-loop-i
invariant-loop-i l = Marked l.held l.base l.s l.i l.initial.t l.t × (l.s ≤ l.i) × (l.i ≤ l.end) × (l.end ≤ 256)

abbrev pub decreases-loop-i : goal.decreases-loop-i
decreases-loop-i l = l.end - l.i
