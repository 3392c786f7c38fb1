use Prim.Native.Nat.{◌+◌}
use mathlib.Core.Path.{refl}
use native.Mathlib.Omega.{arith}
use Rattle.script.proofs.Sums.{term_small, sum-begins, sum-next, sum-ends}
use Rattle.script.proofs.rows.sum_piece.Goals as goal

pub overflow_mul-sum : goal.overflow_mul-sum
overflow_mul-sum c = omega (arith, term_small c.from.result (c.args.first + 1 + c.loop-i.i) (omega arith) (omega arith))

pub overflow_add-sum-in-loop-i : goal.overflow_add-sum-in-loop-i
overflow_add-sum-in-loop-i c = omega (arith, term_small c.from.result (c.args.first + 1 + c.loop-i.i) (omega arith) (omega arith))

pub loop-i-init : goal.loop-i-init
loop-i-init c = (sum-begins _ _, omega arith, omega arith)

pub loop-i-preserved : goal.loop-i-preserved
loop-i-preserved c =
    (rw c.from.ensures (sum-next c.loop-i.invariant.0 _ (omega arith) refl), omega arith, omega (arith, term_small c.from.result (c.args.first + 1 + c.loop-i.i) (omega arith) (omega arith)))

pub returns : goal.returns
returns c = (sum-ends c.loop-i.invariant.0 (omega arith), omega arith)
