use mathlib.Core.Path.{◌≡◌}
use Rattle.std.specs.Prelude.{Err}
use Rattle.std.proofs.Common.{rules}
use Rattle.blocks.specs.declared.Use.TheVariants.{SentData}
use Rattle.checks.proofs.Runs.{run-refused, run-live}
use Rattle.link.proofs.ArrivalCalls.{sent-ends, release_refused, released}
use Rattle.link.proofs.End.data_released.Goals as goal

pub free_run-requires : goal.free_run-requires
free_run-requires c =
    let e = c.args.self.now in
    let r = run-live _ _ _ _ _ c.data_released.ensures _ c.in_ok-sent.was in
    sent-ends e.numbers e.tables SentData c.args.block _ c.requires r.1 r.2

pub returns-in_err-sent : goal.returns-in_err-sent
returns-in_err-sent c =
    let e = c.args.self.now in
    let r : c.from_residual.result ≡ Err c.in_err-sent.field-0.0 = search rules in
    rw r (release_refused e.numbers e.tables c.args.block e.endpoints e.bindings c.in_err-sent.field-0.0 (run-refused _ _ _ _ _ c.data_released.ensures _ c.in_err-sent.was))

pub returns : goal.returns
returns c =
    let e = c.args.self.now in
    released e.numbers e.tables c.args.block e.endpoints e.bindings _ _ (run-live _ _ _ _ _ c.data_released.ensures _ c.in_ok-sent.was) c.free_run.ensures
