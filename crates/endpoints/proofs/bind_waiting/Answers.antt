use mathlib.Core.Path.{◌∙◌}
use Rattle.std.proofs.Common.{rules, tests}
use Rattle.blocks.proofs.Search.{ends_nowhere, ends_at}
use Rattle.endpoints.specs.Endpoints.{waiting_at, no_endpoint}
use Rattle.endpoints.proofs.Searches.{first_place}
use Rattle.endpoints.proofs.Bound.{none_waits, one_waits}
use Rattle.endpoints.proofs.bind_waiting.Goals as goal

pub returns-in-Some : goal.returns-in-Some
returns-in-Some c =
    let a = c.args in
    let h = first_place (waiting_at a.address) no_endpoint a.endpoints.now _ (λ x b q k. search (rules, tests)) _ _ c.position-waiting.ensures.ran (cc) c.told-endpoints in
    c.bind.ensures ∙ one_waits a.endpoints.now a.address _ c.in-Some.place (ends_at _ _ h.0 _ c.in-Some.is)

pub returns-in_default : goal.returns-in_default
returns-in_default c =
    let a = c.args in
    let h = first_place (waiting_at a.address) no_endpoint a.endpoints.now _ (λ x b q k. search (rules, tests)) _ _ c.position-waiting.ensures.ran (cc) c.told-endpoints in
    none_waits a.endpoints.now a.address _ (ends_nowhere _ _ h.0 c.in_default.is)
