use native.Mathlib.Omega.{arith}
use lib.ListN.{length-take, length-drop}
use Rattle.script.proofs.Sums.{pieces_begin, pieces_next, pieces_end}
use Rattle.script.proofs.rows.sum.Goals as goal

pub loop-p-init : goal.loop-p-init
loop-p-init c = (pieces_begin _, omega arith, omega arith)

pub sum_piece-requires : goal.sum_piece-requires
sum_piece-requires c = simp (length-take, length-drop) (omega arith, omega arith)

pub loop-p-preserved : goal.loop-p-preserved
loop-p-preserved c =
    (pieces_next c.loop-p.invariant.0 _ _ (omega arith) (omega arith) c.sum_piece.ensures.0, omega arith, omega arith)

pub returns : goal.returns
returns c = pieces_end c.loop-p.invariant.0 c.loop-p-test.false c.loop-p.invariant.2
