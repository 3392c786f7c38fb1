use Rattle.blocks.proofs.Scanning.{found_name}
use Rattle.blocks.proofs.framing.name_length.Goals as goal

pub returns : goal.returns
returns c = let a = c.args in found_name a.s.now a.p a.n _ c.requires c.first_zero.ensures
