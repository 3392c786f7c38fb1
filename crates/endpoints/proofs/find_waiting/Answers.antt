use Rattle.std.proofs.Common.{rules, tests}
use Rattle.endpoints.specs.Endpoints.{waiting_as, no_endpoint}
use Rattle.endpoints.proofs.Searches.{first_place}
use Rattle.endpoints.proofs.find_waiting.Goals as goal

pub returns : goal.returns
returns c = let a = c.args in first_place (waiting_as a.name.now) no_endpoint a.endpoints.now _ (λ x b q k. search (rules, tests)) _ _ c.position.ensures.ran (cc) c.told-endpoints
