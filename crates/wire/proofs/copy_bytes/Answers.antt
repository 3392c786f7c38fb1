use mathlib.Core.Path.{refl}
use native.Mathlib.Numerals.{add-one}
use Rattle.wire.specs.Bytes.{bytes, writes, wrote}
use Rattle.wire.proofs.Positions.{copy_step}
use Rattle.wire.proofs.copy_bytes.Goals as goal

pub loop-i-init : goal.loop-i-init
unfolding wrote writes bytes
loop-i-init c = refl

pub loop-i-preserved : goal.loop-i-preserved
loop-i-preserved c = rw (c.loop-i.invariant, add-one) (copy_step _ _ _ _ _)
