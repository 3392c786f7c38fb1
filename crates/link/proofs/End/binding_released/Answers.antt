use mathlib.Core.List.{[]}
use mathlib.Core.Path.{◌≡◌}
use Rattle.std.specs.Prelude.{Err}
use Rattle.std.proofs.Common.{rules}
use Rattle.blocks.specs.declared.Use.TheVariants.{SentBinding}
use Rattle.link.proofs.ArrivalCalls.{sent-ends, unbind_refused, unbind_live, unbound}
use Rattle.link.proofs.End.binding_released.Goals as goal

pub free_run-requires : goal.free_run-requires
free_run-requires c =
    let e = c.args.self.now in
    let r = unbind_live e.numbers e.tables [] [] c.args.address c.args.block _ (c.binding_released.ensures [] []) _ c.in_ok-sent.was in
    sent-ends e.numbers e.tables SentBinding c.args.block _ c.requires r.0 r.1

pub returns-in_err-sent : goal.returns-in_err-sent
returns-in_err-sent c =
    let e = c.args.self.now in
    let r : c.from_residual.result ≡ Err c.in_err-sent.field-0.0 = search rules in
    rw r (unbind_refused e.numbers e.tables e.endpoints e.bindings c.args.address c.args.block _ (c.binding_released.ensures e.endpoints e.bindings) _ c.in_err-sent.was)

pub returns : goal.returns
returns c =
    let e = c.args.self.now in
    unbound e.numbers e.tables e.endpoints e.bindings c.args.address c.args.block _ (c.binding_released.ensures e.endpoints e.bindings) _ c.in_ok-sent.was _ _ c.free_run.ensures c.bind_waiting.ensures
