use mathlib.Core.Path.{sym, ap, ◌∙◌}
use native.Mathlib.Omega.{arith}
use Rattle.sheet.specs.Picks.{place_in}
use Rattle.sheet.proofs.Walks.{find_none, find_past, find-here, find-next}
use Rattle.sheet.proofs.find.Goals as goal

pub returns-then-e-begin : goal.returns-then-e-begin
returns-then-e-begin c =
    sym (ap place_in (sym c.loop-p.invariant.1 ∙ find_past _ _ _ _ (omega arith) (omega arith) _ c.from-size.ensures c.if-e-begin.true))

pub returns-then-s-p : goal.returns-then-s-p
returns-then-s-p c =
    sym (ap place_in (sym c.loop-p.invariant.1) ∙ find-here _ _ _ _ (omega arith) (omega arith) _ c.from-size.ensures c.if-e-begin.false c.if-s-p.true)

pub loop-p-preserved : goal.loop-p-preserved
loop-p-preserved c =
    (omega arith, sym (find-next _ _ _ _ (omega arith) (omega arith) _ c.from-size.ensures c.if-e-begin.false c.if-s-p.false) ∙ c.loop-p.invariant.1)

pub returns : goal.returns
returns c = sym (ap place_in (sym c.loop-p.invariant.1 ∙ find_none _ _ _ _ (omega arith) c.loop-p.invariant.0 (omega arith)))
