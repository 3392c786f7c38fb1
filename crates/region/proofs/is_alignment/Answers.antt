use native.Mathlib.Omega.{arith}
use Rattle.std.proofs.lemmas.Grind.{common_steps}
use Rattle.region.specs.Layout.{is_alignment}
use Rattle.region.proofs.is_alignment.Goals as goal

pub returns-in-4 : goal.returns-in-4
unfolding is_alignment
returns-in-4 c = grind (arith, common_steps)

pub returns-in_default : goal.returns-in_default
unfolding is_alignment
returns-in_default c = grind (arith, common_steps)
