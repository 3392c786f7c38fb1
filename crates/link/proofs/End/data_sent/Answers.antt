use Prim.Native.Nat.{◌+◌, ◌≤◌, ◌<◌, ◌^◌}
use mathlib.Core.Bool.{true}
use mathlib.Core.List.{[]}
use mathlib.Core.Path.{◌≡◌, refl, sym, ap, ◌∙◌}
use native.Mathlib.Omega.{arith}
use lib.ListN.{length, get_or}
use lib.Seq.{set-get_or}
use Rattle.std.specs.Prelude.{Err}
use Rattle.std.proofs.Common.{rules}
use Rattle.blocks.proofs.Loops.{in_list}
use Rattle.endpoints.specs.Endpoints.{bound_at, no_endpoint}
use Rattle.endpoints.proofs.Bound.{bound_already}
use Rattle.link.proofs.ArrivalCalls.{data_refused, data_fits, data_taken}
use Rattle.link.proofs.End.data_sent.Goals as goal
use Rattle.link.proofs.End.data_sent.Goals.{In_ok-delivery}

-- what was measured, and where the endpoint stands
fits : (c : In_ok-delivery) → let d = c.in_ok-delivery.delivery in (1 ≤ d.count) × (c.args.block + d.count ≤ 256) × (d.length < 2 ^ 24) × (d.place < 8)
fits c = let e = c.args.self.now in data_fits e.numbers e.tables e.endpoints c.args.address c.args.block c.args.rx.now _ [] (c.data_sent.ensures []) _ c.in_ok-delivery.was

pub take_run-requires : goal.take_run-requires
take_run-requires c = let f = fits (goal.at.take_run-requires c).In_ok-delivery in (f.0, f.1, f.2, refl)

pub offset_bounds-self-place : goal.offset_bounds-self-place
offset_bounds-self-place c = omega (arith, (fits (goal.at.offset_bounds-self-place c).In_ok-delivery).3)

pub bounds-self-place : goal.bounds-self-place
bounds-self-place c = (fits (goal.at.bounds-self-place c).In_ok-delivery).3

pub bind-requires : goal.bind-requires
bind-requires c = (fits (goal.at.bind-requires c).In_ok-delivery).3

pub returns-in_err-delivery : goal.returns-in_err-delivery
returns-in_err-delivery c =
    let e = c.args.self.now in
    let r : c.from_residual.result ≡ Err c.in_err-delivery.field-0.0 = search rules in
    rw r (data_refused e.numbers e.tables e.endpoints c.args.address c.args.block c.args.rx.now _ e.bindings (c.data_sent.ensures e.bindings) _ c.in_err-delivery.was)

pub returns-then-not-is_bound_to : goal.returns-then-not-is_bound_to
returns-then-not-is_bound_to c =
    let e = c.args.self.now in
    let b = rw (set-get_or e.endpoints c.in_ok-delivery.delivery.place _) at c.bind.ensures in
    data_taken e.numbers e.tables e.endpoints c.args.address c.args.block c.args.rx.now _ e.bindings (c.data_sent.ensures e.bindings) _ c.in_ok-delivery.was _ _ c.take_run.ensures b

pub returns-else-not-is_bound_to : goal.returns-else-not-is_bound_to
returns-else-not-is_bound_to c =
    let e = c.args.self.now in
    let n : length e.endpoints ≡ 8 = search rules in
    let p = (fits (goal.at.returns-else-not-is_bound_to c).In_ok-delivery).3 in
    let b : bound_at c.args.address (get_or e.endpoints c.in_ok-delivery.delivery.place no_endpoint) ≡ true
    = sym (ap (bound_at c.args.address) (in_list e.endpoints c.in_ok-delivery.delivery.place _ no_endpoint (omega (arith, n, p)))) ∙ (sym c.is_bound_to.ensures ∙ c.if-not-is_bound_to.false) in
    rw (set-get_or e.endpoints c.in_ok-delivery.delivery.place _)
    (data_taken e.numbers e.tables e.endpoints c.args.address c.args.block c.args.rx.now _ e.bindings (c.data_sent.ensures e.bindings) _ c.in_ok-delivery.was _ _ c.take_run.ensures
    (sym (bound_already e.endpoints c.args.address _ b)))
