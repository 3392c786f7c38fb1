use mathlib.Core.Path.{refl}
use Rattle.icmsg.specs.Ring.{in_rule}
use Rattle.icmsg.proofs.in_rule.Goals as goal

pub returns : goal.returns
unfolding in_rule
returns c = refl
