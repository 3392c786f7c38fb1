-- Whom an address reaches.
use Prim.Native.Nat.{ℕ}
use mathlib.Core.Bool.{Bool, true, false, ◌||◌, cond}
use mathlib.Core.Path.{◌≡◌, refl, sym, ◌∙◌}
use mathlib.Core.List.{List, [], ◌∷◌}
use native.Mathlib.Omega.{arith}
use denote.Ref.{Bor}
use lib.Dec.{eqb}
use lib.ListN.{length}
use borrow.Author.Tests.{eqb-true}
use Rattle.std.specs.Prelude.{Option, None, Some}
use Rattle.std.specs.Option.{MatchOption, IsSomeAnd, option_map}
use Rattle.std.specs.List.{find, list_any}
use Rattle.wire.proofs.Choices.{both}
use Rattle.endpoints.proofs.Searches.{some}
use Rattle.endpoints.specs.Endpoints.{at, is_bound, bound_at, some_endpoint, no_endpoint, IsAddressee}
use Rattle.endpoints.specs.declared.Endpoint.{Endpoint}

-- the first that passes does, and where there is none, none does
first_passes : {A : Type 0} (f : A → Bool) (l : List A) → MatchOption (find f l) (false ≡ list_any f l) (λ x. (f x ≡ true) × (true ≡ list_any f l))
first_passes f [] = refl
first_passes {A} f (x ∷ l) = go (f x) refl (find f l) (first_passes f l)
  where
    go : (b : Bool) → f x ≡ b → (r : Option A) → MatchOption r (false ≡ list_any f l) (λ x. (f x ≡ true) × (true ≡ list_any f l)) →
        MatchOption (cond b (Some x) r) (false ≡ (b || list_any f l)) (λ x. (f x ≡ true) × (true ≡ (b || list_any f l)))
    go true q r h = (q, refl)
    go false q r h = h

pub addressed : (a : ℕ) (ps : List Endpoint) (o : Option (Bor Endpoint)) (r : Option ℕ) (P : Bor Endpoint → ℕ → Type 0) →
    option_map (λ x. x.now) o ≡ find (bound_at a) ps → length ps ≡ 8 → MatchOption o (r ≡ None) (λ x. IsSomeAnd r (P x)) →
    ((x : Bor Endpoint) (y : ℕ) → P x y → y ≡ x.now.address) → IsAddressee r a ps
addressed a ps None r P h k m p =
    let w = first_passes (bound_at a) ps in
    let v : false ≡ list_any (bound_at a) ps = rw (← h) at w in
    rw m (sym (v ∙ some (bound_at a) no_endpoint ps 0 8 (omega (arith, k))))
addressed a ps (Some x) None P h k m p = absurd m
addressed a ps (Some x) (Some y) P h k m p =
    let w = first_passes (bound_at a) ps in
    let v : (bound_at a x.now ≡ true) × (true ≡ list_any (bound_at a) ps) = rw (← h) at w in
    (p x y m ∙ eqb-true _ _ (both (at is_bound x.now) (eqb x.now.address a) v.0).1, sym (v.1 ∙ some (bound_at a) no_endpoint ps 0 8 (omega (arith, k))))

-- what the code's question tells
module _ (r : Option ℕ) (a : ℕ) (ps : List Endpoint) (h : IsAddressee r a ps) where
  pub nobody_there : r ≡ None → some_endpoint (bound_at a) ps ≡ false
  nobody_there q = rw q at h

  pub somebody_there : (x : ℕ) → r ≡ Some x → (x ≡ a) × (some_endpoint (bound_at a) ps ≡ true)
  somebody_there x q = rw q at h
