use mathlib.Core.Bool.{not}
use Rattle.std.proofs.Common.{rules, tests}
use Rattle.endpoints.specs.Endpoints.{no_binding}
use Rattle.endpoints.proofs.Searches.{first_place}
use Rattle.endpoints.proofs.find_free.Goals as goal

pub returns : goal.returns
returns c = let a = c.args in first_place (λ b. not b.stored) no_binding a.bindings.now _ (λ x b q k. search (rules, tests)) _ _ c.position.ensures.ran (cc) c.told-bindings
