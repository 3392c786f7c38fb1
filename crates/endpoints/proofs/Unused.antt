-- The search for the lowest unused address, a the next.
use Prim.Native.Nat.{ℕ, suc, ◌+◌, ◌-◌, ◌≤◌, ◌<◌}
use mathlib.Core.Bool.{true, false}
use mathlib.Core.Path.{◌≡◌, ap, ◌∙◌}
use mathlib.Core.List.{List}
use native.Mathlib.Omega.{arith}
use native.Mathlib.Numerals.{add-one}
use Rattle.endpoints.specs.Endpoints.{uses, some_endpoint, unused_from}
use Rattle.endpoints.specs.declared.Endpoint.{Endpoint}

module _ (ps : List Endpoint) (a : ℕ) where
  pub in_use : a < 8 → some_endpoint (uses a) ps ≡ true → unused_from (8 - a) a ps ≡ unused_from (8 - (a + 1)) (a + 1) ps
  unfolding unused_from
  in_use l h =
      let p : 8 - a ≡ suc (8 - (a + 1)) = omega arith in
      ap (λ (f : ℕ). unused_from f a ps) p ∙ rw (h, add-one a)

  pub is_unused : a < 8 → some_endpoint (uses a) ps ≡ false → unused_from (8 - a) a ps ≡ a
  unfolding unused_from
  is_unused l h =
      let p : 8 - a ≡ suc (8 - (a + 1)) = omega arith in
      ap (λ (f : ℕ). unused_from f a ps) p ∙ rw h

  pub none_unused : 8 ≤ a → unused_from (8 - a) a ps ≡ a
  unfolding unused_from
  none_unused l = let p : 8 - a ≡ 0 = omega arith in ap (λ (f : ℕ). unused_from f a ps) p
