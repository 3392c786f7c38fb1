use Prim.Native.Nat.{ℕ}
use mathlib.Core.Bool.{true}
use mathlib.Core.List.{List}
use mathlib.Core.Path.{◌≡◌, sym, ap, ◌∙◌}
use native.Mathlib.Omega.{arith}
use Rattle.std.specs.Prelude.{Err}
use Rattle.std.proofs.Common.{rules}
use Rattle.wire.proofs.Positions.{bytes-all}
use Rattle.refusal.specs.declared.Refusal.TheVariants.{NoPlace}
use Rattle.blocks.specs.Names.{padded_name}
use Rattle.blocks.proofs.Search.{ends_nowhere, ends_at, at-below}
use Rattle.endpoints.specs.Endpoints.{registered, some_endpoint, good_name}
use Rattle.endpoints.specs.declared.Binding.{Binding}
use Rattle.icbmsg.specs.Ends.{whole}
use Rattle.checks.specs.Parts.{joined}
use Rattle.checks.proofs.OpenSays.{not_whole, is_whole}
use Rattle.checks.proofs.RegisterDecisions.{good_length, registered_of, register_6, register_20, register_21, register_22, register_at}
use Rattle.checks.proofs.registrations.register.Goals as goal
use Rattle.checks.proofs.registrations.register.Goals.{After-is_registered-taken, After-padded-kept, Else-not-is_good_name, Else-not-is_whole}

lent : (c : Else-not-is_whole) (t : List ℕ) (b : List Binding) → whole (joined c.args.n t c.args.endpoints.now b) c.args.n.tx c.args.lent ≡ true
lent c t b = is_whole (joined c.args.n t c.args.endpoints.now b) c.args.n.tx c.args.lent _ c.is_whole.ensures c.if-not-is_whole.false

good : (c : Else-not-is_good_name) → good_name 31 c.args.name.now ≡ true
good c = sym c.is_good_name.ensures ∙ c.if-not-is_good_name.false

kept : (c : After-padded-kept) → c.padded-kept.result ≡ padded_name c.args.name.now
kept c = c.padded-kept.ensures ∙ ap padded_name (bytes-all c.args.name.now)

taken : (c : After-is_registered-taken) → c.is_registered-taken.result ≡ some_endpoint (registered c.args.name.now) c.args.endpoints.now
taken c =
    let kept : c.padded-kept.result ≡ padded_name c.args.name.now = c.padded-kept.ensures ∙ ap padded_name (bytes-all c.args.name.now) in
    registered_of c.args.endpoints.now _ c.args.name.now kept _ c.is_registered-taken.ensures

pub returns-then-not-is_whole : goal.returns-then-not-is_whole
returns-then-not-is_whole c = λ t b.
    let e = joined c.args.n t c.args.endpoints.now b in
    register_6 e c.args.lent c.args.name.now (not_whole e c.args.n.tx c.args.lent _ c.is_whole.ensures c.if-not-is_whole.true)

pub returns-then-not-is_good_name : goal.returns-then-not-is_good_name
returns-then-not-is_good_name c = λ t b.
    register_20 (joined c.args.n t c.args.endpoints.now b) c.args.lent c.args.name.now (lent (goal.at.returns-then-not-is_good_name c).Else-not-is_whole t b) (sym c.is_good_name.ensures ∙ c.if-not-is_good_name.true)

pub padded-kept-requires : goal.padded-kept-requires
padded-kept-requires c = let h = good_length c.args.name.now (good (goal.at.padded-kept-requires c).Else-not-is_good_name) in (omega arith, omega (arith, h.1))

pub returns-then-taken : goal.returns-then-taken
returns-then-taken c = λ t b.
    let g = goal.at.returns-then-taken c in
    register_21 (joined c.args.n t c.args.endpoints.now b) c.args.lent c.args.name.now (lent g.Else-not-is_whole t b) (good g.Else-not-is_good_name) (sym (taken g.After-is_registered-taken) ∙ c.if-taken.true)

pub returns-in_err-place : goal.returns-in_err-place
returns-in_err-place c = λ t b.
    let g = goal.at.returns-in_err-place c in
    let r : c.from_residual.result ≡ Err NoPlace = search rules in
    rw r (register_22 (joined c.args.n t c.args.endpoints.now b) c.args.lent c.args.name.now (lent g.Else-not-is_whole t b) (good g.Else-not-is_good_name) (sym (taken g.After-is_registered-taken) ∙ c.if-taken.false)
    (ends_nowhere _ _ c.find_unused.ensures.0 c.in_err-place.ensures.ok_part))

pub returns : goal.returns
returns c = λ t b.
    let g = goal.at.returns c in
    register_at (joined c.args.n t c.args.endpoints.now b) c.args.lent c.args.name.now (lent g.Else-not-is_whole t b) (good g.Else-not-is_good_name) (sym (taken g.After-is_registered-taken) ∙ c.if-taken.false) _ _
    (ends_at _ _ c.find_unused.ensures.0 _ c.in_ok-place.ensures.ok_part) (kept g.After-padded-kept) (omega (arith, at-below _ 1 _ _ c.find_unused.ensures.1 c.in_ok-place.ensures.ok_part))
