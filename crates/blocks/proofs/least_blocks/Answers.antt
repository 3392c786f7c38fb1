use mathlib.Core.Path.{◌∙◌}
use Rattle.blocks.proofs.LeastBlocks.{rounded_up}
use Rattle.blocks.proofs.least_blocks.Goals as goal

pub returns : goal.returns
returns c = c.div_ceil.ensures ∙ rounded_up _ _ c.requires
