use mathlib.Core.Path.{◌∙◌, ap, sym}
use native.Mathlib.Omega.{arith}
use Rattle.blocks.specs.Tables.{starts_entry}
use Rattle.blocks.specs.declared.Entry.{Entry}
use Rattle.tables.proofs.Runs.{starts-beyond, run_found}
use Rattle.tables.proofs.Entries.{table-length, table-entry}
use Rattle.tables.specs.Compact.{table_of}
use Rattle.tables.proofs.run_at.Goals as goal

pub returns-then-s-ge-MAX_BLOCKS : goal.returns-then-s-ge-MAX_BLOCKS
returns-then-s-ge-MAX_BLOCKS c =
    let a = c.args in
    starts-beyond a.u a.block_count (table_of a.t.now a.base.at) a.s (omega (arith, c.if-s-ge-MAX_BLOCKS.true, table-length a.t.now a.base.at))

pub returns : goal.returns
returns c =
    let a = c.args in
    let e = c.entry_at-x.ensures ∙ sym (table-entry _ a.base.at a.s (omega (arith, c.if-s-ge-MAX_BLOCKS.false))) in
    rw c.then_some.ensures (run_found _ a.s _ _ _ e (ap (λ (x : Entry). starts_entry a.u a.block_count x a.s) (sym e) ∙ sym c.starts.ensures))
