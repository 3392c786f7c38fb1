use Rattle.region.proofs.PlainLayouts.{plain_4, plain-accepted}
use Rattle.region.proofs.fitted_plain.Goals as goal

pub returns-then-length-before : goal.returns-then-length-before
returns-then-length-before c = plain_4 _ _ _ _ _ c.requires.bounds c.up_to-before.ensures.0 c.past-behind.ensures.0 c.if-length-before.true

pub returns : goal.returns
returns c = plain-accepted _ _ _ _ _ c.requires.bounds c.up_to-before.ensures.0 c.past-behind.ensures.0 c.if-length-before.false
