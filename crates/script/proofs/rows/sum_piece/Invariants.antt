use Prim.Native.Nat.{◌-◌, ◌*◌, ◌≤◌}
use lib.ListN.{length}
use Rattle.script.proofs.Sums.{Summed}
use Rattle.script.proofs.rows.sum_piece.Given as goal

abbrev pub invariant-loop-i : goal.invariant-loop-i
invariant-loop-i l = Summed l.first l.part l.sum l.i × (l.i ≤ length l.part) × (l.sum ≤ l.i * 17752335)

abbrev pub decreases-loop-i : goal.decreases-loop-i
decreases-loop-i l = length l.part - l.i
