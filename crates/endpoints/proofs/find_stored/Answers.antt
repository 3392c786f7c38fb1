use Rattle.std.proofs.Common.{rules, tests}
use Rattle.endpoints.specs.Endpoints.{holds_as, no_binding}
use Rattle.endpoints.proofs.Searches.{first_place}
use Rattle.endpoints.proofs.find_stored.Goals as goal

pub returns : goal.returns
returns c = let a = c.args in first_place (holds_as a.block_count a.name.now) no_binding a.bindings.now _ (λ x b q k. search (rules, tests)) _ _ c.position.ensures.ran (cc) c.told-bindings
