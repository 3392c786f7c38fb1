use Prim.Native.Nat.{◌+◌, ◌≤◌}
use mathlib.Core.Bool.{true}
use mathlib.Core.List.{List, []}
use mathlib.Core.Path.{◌≡◌, sym, ◌∙◌}
use native.Mathlib.Omega.{arith}
use Rattle.std.specs.Prelude.{Err}
use Rattle.std.proofs.Common.{rules}
use Rattle.blocks.specs.Tables.{entry, starts}
use Rattle.blocks.specs.declared.Use.TheVariants.{Reserved}
use Rattle.blocks.proofs.Tables.{run_of}
use Rattle.endpoints.specs.declared.Endpoint.{Endpoint}
use Rattle.endpoints.specs.declared.Binding.{Binding}
use Rattle.tables.specs.Compact.{table_of}
use Rattle.icbmsg.specs.Ends.{is_open}
use Rattle.checks.specs.Parts.{joined}
use Rattle.checks.proofs.OpenSays.{open_says, open_is}
use Rattle.checks.proofs.Runs.{run-refused, run-live}
use Rattle.link.proofs.MessageCalls.{drop-refused, dropped}
use Rattle.link.proofs.End.drop.Goals as goal
use Rattle.link.proofs.End.drop.Goals.{After-is_open-open, In_ok-reserved}

opened : (c : After-is_open-open) (ps : List Endpoint) (bs : List Binding) → let e = c.args.self.now in c.is_open-open.result ≡ is_open (joined e.numbers e.tables ps bs)
opened c ps bs = let e = c.args.self.now in open_is (joined e.numbers e.tables ps bs) _ c.is_open-open.ensures

run : (c : In_ok-reserved) → let e = c.args.self.now in
    (c.is_open-open.result ≡ true) × (starts Reserved e.numbers.tx.block_count (table_of e.tables 0) c.args.start ≡ true) × (c.in_ok-reserved.reserved ≡ entry (table_of e.tables 0) c.args.start)
run c = run-live _ _ _ _ _ c.live.ensures _ c.in_ok-reserved.was

ends : (c : In_ok-reserved) → c.args.start + c.in_ok-reserved.reserved.count ≤ 256
ends c =
    let e = joined c.args.self.now.numbers c.args.self.now.tables [] [] in
    let o : c.is_open-open.result ≡ is_open e = open_is e _ c.is_open-open.ensures in
    let r = run-live _ _ _ _ _ c.live.ensures _ c.in_ok-reserved.was in
    rw r.2 (omega (arith, (run_of Reserved e.tx.block_count e.sent c.args.start r.1).ends, (open_says e (sym o ∙ r.0)).tx.few))

pub free_run-requires : goal.free_run-requires
free_run-requires c = ends (goal.at.free_run-requires c).In_ok-reserved

pub returns-in_err-reserved-clause-answer : goal.returns-in_err-reserved-clause-answer
returns-in_err-reserved-clause-answer c = λ ps bs.
    let e = c.args.self.now in
    let r : c.from_residual.result ≡ Err c.in_err-reserved.field-0.0 = search rules in
    rw r (drop-refused e.numbers e.tables c.args.start ps bs _ (opened (goal.at.returns-in_err-reserved-clause-answer c).After-is_open-open ps bs) c.in_err-reserved.field-0.0 (run-refused _ _ _ _ _ c.live.ensures _ c.in_err-reserved.was))

pub returns-clause-answer : goal.returns-clause-answer
returns-clause-answer c = λ ps bs.
    let e = c.args.self.now in
    dropped e.numbers e.tables c.args.start ps bs _ (opened (goal.at.returns-clause-answer c).After-is_open-open ps bs) _ _ (run (goal.at.returns-clause-answer c).In_ok-reserved) c.free_run.ensures
