use mathlib.Core.Path.{◌≡◌, refl, ◌∙◌}
use native.Mathlib.Omega.{arith}
use Rattle.wire.specs.Bytes.{bytes, writes, wrote}
use Rattle.wire.proofs.Positions.{copied_on}
use Rattle.wire.proofs.copy_pieces.Goals as goal

pub loop-done-init : goal.loop-done-init
unfolding wrote writes bytes
loop-done-init c = (omega arith, (refl, refl))

pub loop-done-preserved : goal.loop-done-preserved
loop-done-preserved c =
    (omega arith, (c.copy_piece.ensures ∙ rw c.loop-done.invariant.1.0 (copied_on _ _ _ _ _ _), omega arith))

pub returns : goal.returns
returns c =
    let e : c.loop-done.done ≡ c.args.n = omega arith in
    rw (← e) c.loop-done.invariant.1.0
