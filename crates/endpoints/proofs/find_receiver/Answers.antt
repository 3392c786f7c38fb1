use Rattle.std.proofs.Common.{rules, tests}
use Rattle.endpoints.specs.Endpoints.{receives_at, no_endpoint}
use Rattle.endpoints.proofs.Searches.{first_place}
use Rattle.endpoints.proofs.find_receiver.Goals as goal

pub returns : goal.returns
returns c = let a = c.args in first_place (receives_at a.initiator a.address) no_endpoint a.endpoints.now _ (λ x b q k. search (rules, tests)) _ _ c.position.ensures.ran (cc) c.told-endpoints
