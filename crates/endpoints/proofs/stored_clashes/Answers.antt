use Rattle.std.proofs.Common.{rules, tests}
use Rattle.endpoints.specs.Endpoints.{clashes_stored_as, no_binding}
use Rattle.endpoints.proofs.Searches.{some_place}
use Rattle.endpoints.proofs.stored_clashes.Goals as goal

pub returns : goal.returns
returns c = let a = c.args in some_place (clashes_stored_as a.address a.name.now) no_binding a.bindings.now _ (λ x b q k. search (rules, tests)) _ _ c.any.ensures.ran (cc) c.told-bindings
