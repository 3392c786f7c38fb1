use mathlib.Core.Path.{◌≡◌, sym, ◌∙◌}
use native.Mathlib.Omega.{arith}
use Rattle.std.proofs.Common.{rules, tests}
use Rattle.endpoints.specs.Endpoints.{uses, no_endpoint}
use Rattle.endpoints.proofs.Searches.{some_place}
use Rattle.endpoints.proofs.Unused.{in_use, is_unused, none_unused}
use Rattle.endpoints.proofs.unused_address.Goals as goal

pub returns-then-not-any : goal.returns-then-not-any
returns-then-not-any c =
    let l = c.loop-a in
    let a = c.args in
    let h = some_place (uses l.a-counter) no_endpoint a.endpoints.now _ (λ x b q k. search (rules, tests)) _ _ c.any.ensures.ran (cc) c.told-endpoints in
    sym (l.invariant.0 ∙ is_unused a.endpoints.now l.a-counter c.loop-a-test.true (sym h ∙ c.if-not-any.true))

pub loop-a-preserved : goal.loop-a-preserved
loop-a-preserved c =
    let l = c.loop-a in
    let a = c.args in
    let h = some_place (uses l.a-counter) no_endpoint a.endpoints.now _ (λ x b q k. search (rules, tests)) _ _ c.any.ensures.ran (cc) c.told-endpoints in
    (l.invariant.0 ∙ in_use a.endpoints.now l.a-counter c.loop-a-test.true (sym h ∙ c.if-not-any.false), search rules)

pub returns : goal.returns
returns c =
    let l = c.loop-a in
    let e : 8 ≡ l.a-counter = omega (arith, l.invariant.1, c.loop-a-test.false) in
    e ∙ sym (l.invariant.0 ∙ none_unused c.args.endpoints.now l.a-counter c.loop-a-test.false)
