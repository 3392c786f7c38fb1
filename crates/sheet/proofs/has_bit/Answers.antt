use mathlib.Core.Path.{refl}
use Rattle.sheet.specs.Tags.{has_bit}
use Rattle.sheet.proofs.has_bit.Goals as goal

pub returns : goal.returns
unfolding has_bit
returns c = refl
