use mathlib.Core.Path.{refl}
use Rattle.region.specs.Layout.{is_block_count}
use Rattle.region.proofs.is_block_count.Goals as goal

pub returns : goal.returns
unfolding is_block_count
returns c = refl
