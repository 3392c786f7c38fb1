use mathlib.Core.Path.{◌∙◌}
use Rattle.region.proofs.PlainLayouts.{plain_1, plain_3, plain-passed, plain-rule}
use mathlib.Core.Bool.{not}
use mathlib.Core.Path.{ap}
use Rattle.region.proofs.plain.Goals as goal

pub returns-then-not-is_alignment : goal.returns-then-not-is_alignment
returns-then-not-is_alignment c = plain_1 _ _ _ _ c.is_alignment.ensures (ap not c.if-not-is_alignment.true)

pub returns-then-not-are_bounds : goal.returns-then-not-are_bounds
returns-then-not-are_bounds c = plain_3 _ _ _ _ c.is_alignment.ensures (ap not c.if-not-is_alignment.false) _ c.are_bounds.ensures (ap not c.if-not-are_bounds.true)

pub fitted_plain-requires : goal.fitted_plain-requires
fitted_plain-requires c = plain-rule _ _ _ _ c.is_alignment.ensures (ap not c.if-not-is_alignment.false) _ c.are_bounds.ensures (ap not c.if-not-are_bounds.false)

pub returns : goal.returns
returns c =
    c.fitted_plain.ensures ∙ plain-passed _ _ _ _ c.is_alignment.ensures (ap not c.if-not-is_alignment.false) _ c.are_bounds.ensures (ap not c.if-not-are_bounds.false)
