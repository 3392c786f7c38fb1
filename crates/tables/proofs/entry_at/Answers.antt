use mathlib.Core.Path.{sym, ◌∙◌}
use borrow.Author.Tests.{eq-eqb, ne_eqb}
use Rattle.tables.specs.Compact.{entry_at, start_entry}
use Rattle.tables.proofs.entry_at.Goals as goal

pub returns-then-not-is_held : goal.returns-then-not-is_held
unfolding entry_at
returns-then-not-is_held c = rw (sym c.is_held.ensures ∙ c.if-not-is_held.true)

pub returns-then-state-eq0 : goal.returns-then-state-eq0
unfolding entry_at start_entry
returns-then-state-eq0 c = rw (sym c.is_held.ensures ∙ c.if-not-is_held.false, eq-eqb _ _ c.if-state-eq0.true)

pub returns : goal.returns
unfolding entry_at start_entry
returns c =
    rw (sym c.is_held.ensures ∙ c.if-not-is_held.false, ne_eqb _ _ c.if-state-eq0.false, sym c.use_of-usage.ensures, c.from-count.ensures, c.from.ensures, c.from-2.ensures, c.from-3.ensures)
