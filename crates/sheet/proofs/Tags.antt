-- The bits of a set of tags.
use Prim.Native.Nat.{ℕ, zero, suc, ◌+◌, ◌-◌, ◌*◌, ◌/◌, ◌%◌, ◌^◌, ◌<◌}
use mathlib.Core.Bool.{Bool, true, false, ◌||◌}
use mathlib.Core.List.{List, [], ◌∷◌}
use mathlib.Core.Path.{◌≡◌, refl, sym, ap, ◌∙◌}
use native.Mathlib.Nat.{mod-lt, div-eq_of_lt, div_self, mul-div_cancel, div-add-mod', pow-suc, mul-mod_left, zero-div}
use native.Mathlib.Omega.{arith}
use lib.Bits.{bit_or, or_shr, or_mod, or_zero_r}
use lib.Dec.{eqb, ltb}
use lib.ListN.{length, get_or, set, replicate, length-set, get_or-replicate}
use lib.Pow.{pow_pos, pow-lt, pow-add}
use lib.Seq.{get_or-set_same, get_or-set_other}
use borrow.Author.Tests.{ltb-true, ltb-false, eqb-true, eqb-false, eq-eqb}
use Rattle.sheet.specs.Tags.{has_bit, with_bit}
use Rattle.sheet.specs.Sheets.{has}

-- bit j of 2 ^ k
above : (k j : ℕ) → k < j → 2 ^ k / 2 ^ j % 2 ≡ 0
above k j h = rw (div-eq_of_lt (pow-lt h))

below : (k j m : ℕ) → k ≡ suc m + j → 2 ^ k / 2 ^ j % 2 ≡ 0
below k j m h =
    rw (h, pow-add 2 (suc m) j, mul-div_cancel (2 ^ suc m) (pow_pos j), pow-suc 2 m) (mul-mod_left (2 ^ m) 2)

same_bit : (j : ℕ) → 2 ^ j / 2 ^ j % 2 ≡ 1
same_bit j = rw (div_self (pow_pos j))

other_bit : (k j : ℕ) → (k ≡ j → ⊥) → 2 ^ k / 2 ^ j % 2 ≡ 0
other_bit k j h = go (ltb k j) refl
  where
    go : (b : Bool) → ltb k j ≡ b → 2 ^ k / 2 ^ j % 2 ≡ 0
    go true e = above k j (ltb-true k j e)
    go false e =
        let g = ltb-false k j e in
        below k j (k - j - 1) (omega arith)

-- bit j of x or y
or_bit : (x y j : ℕ) → bit_or x y / 2 ^ j % 2 ≡ bit_or (x / 2 ^ j % 2) (y / 2 ^ j % 2)
or_bit x y j = rw (or_shr x y j) (or_mod (x / 2 ^ j) (y / 2 ^ j) 1)

or_one : (b : ℕ) → b < 2 → bit_or b 1 ≡ 1
or_one zero h = refl
or_one (suc zero) h = refl
or_one (suc (suc b)) h = absurd (omega arith)

-- in one word
bit_none : (k : ℕ) → has_bit 0 k ≡ false
unfolding has_bit
bit_none k = rw (zero-div (2 ^ k))

bit_same : (w k : ℕ) → has_bit (with_bit w k) k ≡ true
unfolding has_bit with_bit
bit_same w k = eq-eqb _ 1 (or_bit w (2 ^ k) k ∙ rw (same_bit k) (or_one (w / 2 ^ k % 2) (mod-lt (w / 2 ^ k) (omega arith))))

bit_other : (w k j : ℕ) → (k ≡ j → ⊥) → has_bit (with_bit w k) j ≡ has_bit w j
unfolding has_bit with_bit
bit_other w k j h = rw (or_bit w (2 ^ k) j, other_bit k j h, or_zero_r (w / 2 ^ j % 2))

-- a set of tags in four words
abbrev pub in_set : List ℕ → ℕ → Bool
in_set seen t = has_bit (get_or seen (t / 64) 0) (t % 64)

abbrev with_tag : List ℕ → ℕ → List ℕ
with_tag seen t = set seen (t / 64) (with_bit (get_or seen (t / 64) 0) (t % 64))

-- that has these tags
pub record Holds (seen tags : List ℕ) : Type 0 where
  pub words : length seen ≡ 4
  pub same : (t : ℕ) → t < 256 → in_set seen t ≡ has tags t

module _ (seen : List ℕ) (t : ℕ) (words : length seen ≡ 4) (ht : t < 256) where
  word_below : t / 64 < length seen
  word_below = omega arith

  with-same : in_set (with_tag seen t) t ≡ true
  with-same = rw (get_or-set_same seen (t / 64) (with_bit (get_or seen (t / 64) 0) (t % 64)) 0 word_below) (bit_same _ (t % 64))

  with_other : (u : ℕ) → (t ≡ u → ⊥) → in_set (with_tag seen t) u ≡ in_set seen u
  with_other u h = go (eqb (t / 64) (u / 64)) refl
    where
      w : ℕ
      w = with_bit (get_or seen (t / 64) 0) (t % 64)

      bits_differ : t / 64 ≡ u / 64 → t % 64 ≡ u % 64 → ⊥
      bits_differ p q = h (sym (div-add-mod' t 64) ∙ ap (λ (x : ℕ). x * 64 + t % 64) p ∙ ap (λ (x : ℕ). u / 64 * 64 + x) q ∙ div-add-mod' u 64)

      go : (b : Bool) → eqb (t / 64) (u / 64) ≡ b → has_bit (get_or (set seen (t / 64) w) (u / 64) 0) (u % 64) ≡ has_bit (get_or seen (u / 64) 0) (u % 64)
      go true e =
          let p = eqb-true (t / 64) (u / 64) e in
          rw (← p, get_or-set_same seen (t / 64) w 0 word_below) (bit_other (get_or seen (t / 64) 0) (t % 64) (u % 64) (bits_differ p))
      go false e = rw (get_or-set_other seen (t / 64) (u / 64) w 0 (λ q. eqb-false (t / 64) (u / 64) e (sym q)))

-- no tag, and one more
pub holds-none : Holds (replicate 4 0) []
unfolding has
holds-none = record { words = refl; same = λ t h. rw (get_or-replicate {A = ℕ} 4 (t / 64) 0 0 (omega arith)) (bit_none (t % 64)) }

pub holds_more : (seen tags : List ℕ) (t : ℕ) → t < 256 → Holds seen tags → Holds (with_tag seen t) (t ∷ tags)
unfolding has
holds_more seen tags t ht h = record { words = length-set seen (t / 64) (with_bit (get_or seen (t / 64) 0) (t % 64)) ∙ h.words; same = λ u hu. go u hu (eqb t u) refl }
  where
    go : (u : ℕ) → u < 256 → (b : Bool) → eqb t u ≡ b → in_set (with_tag seen t) u ≡ (eqb t u || has tags u)
    go u hu true e = rw (e, ← eqb-true t u e) (with-same seen t h.words ht)
    go u hu false e = rw e (with_other seen t h.words ht u (eqb-false t u e) ∙ h.same u hu)
