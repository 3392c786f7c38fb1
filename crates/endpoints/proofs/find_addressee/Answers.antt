use Rattle.std.proofs.Common.{rules, tests}
use Rattle.std.proofs.lemmas.Iterator.{YieldsList-from_slice}
use Rattle.std.proofs.lemmas.Iterator.Search.{find_from_yields_List}
use Rattle.endpoints.specs.Endpoints.{bound_at}
use Rattle.endpoints.proofs.Addressees.{addressed}
use Rattle.endpoints.proofs.find_addressee.Goals as goal

pub returns : goal.returns
returns c =
    let a = c.args in
    let h = find_from_yields_List (bound_at a.address) _ _ _ c.find.ensures.ran (YieldsList-from_slice a.endpoints.now cc) (λ x b q k. search (rules, tests)) in
    addressed a.address a.endpoints.now _ c.map.result _ h c.told-endpoints c.map.ensures.cases (λ x y p. search rules)
