use Rattle.std.proofs.Common.{rules, tests}
use Rattle.endpoints.specs.Endpoints.{registered_as, no_endpoint}
use Rattle.endpoints.proofs.Searches.{some_place}
use Rattle.endpoints.proofs.is_registered.Goals as goal

pub returns : goal.returns
returns c = let a = c.args in some_place (registered_as a.name.now) no_endpoint a.endpoints.now _ (λ x b q k. search (rules, tests)) _ _ c.any.ensures.ran (cc) c.told-endpoints
