use mathlib.Core.Path.{sym, ◌∙◌}
use Rattle.sheet.proofs.Paths.{follow_begins, follow_ends, follow_nowhere, follow_on}
use Rattle.sheet.proofs.lookup.Goals as goal

pub loop-tag-init : goal.loop-tag-init
loop-tag-init c = follow_begins _ _

pub returns-in_err-at : goal.returns-in_err-at
returns-in_err-at c =
    c.from_residual.ensures ∙ sym (follow_nowhere _ _ _ _ _ c.loop-tag.invariant c.loop-tag-test.true _ c.find.ensures c.in_err-at.was)

pub loop-tag-preserved : goal.loop-tag-preserved
loop-tag-preserved c =
    follow_on _ _ _ _ _ c.loop-tag.invariant c.loop-tag-test.true _ c.find.ensures _ _ c.in_ok-at.was

pub returns : goal.returns
returns c = sym (follow_ends _ _ _ _ _ c.loop-tag.invariant c.loop-tag-test.false)
