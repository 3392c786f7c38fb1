use mathlib.Core.Path.{sym, ◌∙◌}
use native.Mathlib.Omega.{arith}
use Rattle.script.specs.Script.{short, narrow}
use Rattle.script.proofs.RowByRow.{opening_row}
use Rattle.script.proofs.FirstRecord.{script_begins}
use borrow.Author.Rules.{rules}
use Rattle.script.proofs.run.Goals as goal

pub returns-in_default : goal.returns-in_default
returns-in_default c = record { run = short (sym c.opening.ensures ∙ c.in_default.is); fits = search rules }

pub returns-then-out-lt-BYTES : goal.returns-then-out-lt-BYTES
returns-then-out-lt-BYTES c = record { run = narrow c.if-out-lt-BYTES.true; fits = search rules }

pub run_records-requires : goal.run_records-requires
run_records-requires c =
    let k = c.open-left.auto in
    let long = c.if-out-lt-BYTES.false in
    (script_begins _ _ (sym c.opening.ensures ∙ c.in-Some.is), omega arith)

pub returns : goal.returns
returns c =
    let a = c.args in
    let k = c.open-left.auto in
    let f = c.run_records.ensures.fits in
    record { run = opening_row a.script.now a.tx.now a.rx.now a.buffer.now a.out.now _ _ c.open-left.result _ c.open-left.ensures.left c.open-left.ensures.out (sym c.opening.ensures ∙ c.in-Some.is) c.if-out-lt-BYTES.false c.run_records.ensures.rows; fits = omega arith }
