-- Bits of a byte, and the bits of blocks in a list of bytes.
use Prim.Native.Nat.{ℕ, zero, suc, ◌+◌, ◌-◌, ◌*◌, ◌/◌, ◌%◌, ◌^◌, ◌≤◌, ◌<◌}
use mathlib.Core.Bool.{Bool, true, false, ◌&&◌}
use mathlib.Core.Path.{◌≡◌, refl, sym, ap, subst, ◌∙◌}
use mathlib.Core.List.{List, ◌++◌}
use native.Mathlib.Omega.{arith}
use native.Mathlib.Nat.{suc-add, zero-add, pow-suc, suc-mul, zero-mul}
use lib.Bits.{bit_and, bit_or, bit_xor, or_shr, or_mod, xor_shr, xor_mod, and_high}
use lib.Dec.{leb, ltb, eqb}
use lib.Pow.{shr-shr, pow_pos}
use lib.ListN.{get_or, set, length, take, drop, replicate, length-set, length-replicate, length-drop, get_or-append, get_or-replicate}
use lib.Seq.{get_or-set_same, get_or-set_other}
use borrow.Author.Tests.{le-leb, lt-leb, lt-ltb, le-ltb, eqb-true, eqb-false, leb-true, ltb-true, ltb-false}
use borrow.Rule.Slice.PartMut.{put_mid, mid_of, post_of, same_len_mid}
use Rattle.std.proofs.lemmas.List.{length-take-le, get_or-append_right, get_or-take, get_or-drop}
use Rattle.wire.specs.Choice.{pick}
use Rattle.wire.proofs.Choices.{both}
use Rattle.tables.specs.Compact.{bit_of, bits_at, Kept, held_at, IsMask, IsPut, Marked, Cleared}

-- ---- one bit

or_two : (x y : ℕ) → x < 2 → y < 2 → eqb (bit_or x y) 1 ≡ pick (eqb y 1) true (eqb x 1)
or_two zero zero h k = refl
or_two zero (suc zero) h k = refl
or_two (suc zero) zero h k = refl
or_two (suc zero) (suc zero) h k = refl
or_two (suc (suc x)) y h k = absurd (omega arith)
or_two zero (suc (suc y)) h k = absurd (omega arith)
or_two (suc zero) (suc (suc y)) h k = absurd (omega arith)

cut_two : (x y : ℕ) → x < 2 → y < 2 → eqb (bit_xor (bit_or x y) y) 1 ≡ pick (eqb y 1) false (eqb x 1)
cut_two zero zero h k = refl
cut_two zero (suc zero) h k = refl
cut_two (suc zero) zero h k = refl
cut_two (suc zero) (suc zero) h k = refl
cut_two (suc (suc x)) y h k = absurd (omega arith)
cut_two zero (suc (suc y)) h k = absurd (omega arith)
cut_two (suc zero) (suc (suc y)) h k = absurd (omega arith)

pub put_ones : (b m : ℕ) → IsPut b m true (bit_or b m)
put_ones b m j = rw (or_shr b m j, or_mod (b / 2 ^ j) (m / 2 ^ j) 1) (or_two (b / 2 ^ j % 2) (m / 2 ^ j % 2) (omega arith) (omega arith))

pub put_zeros : (b m : ℕ) → IsPut b m false (bit_xor (bit_or b m) m)
put_zeros b m j =
    rw (xor_shr (bit_or b m) m j, or_shr b m j, xor_mod (bit_or (b / 2 ^ j) (m / 2 ^ j)) (m / 2 ^ j) 1, or_mod (b / 2 ^ j) (m / 2 ^ j) 1)
    (cut_two (b / 2 ^ j % 2) (m / 2 ^ j % 2) (omega arith) (omega arith))

-- ---- masks, all of them computed

-- the code's 2 to the x, and what a mask is to be
abbrev pub power : ℕ → ℕ
power x = 1 * 2 ^ x % 2 ^ 32

abbrev same : Bool → Bool → Bool
same true b = b
same false true = false
same false false = true

same-is : (a b : Bool) → same a b ≡ true → a ≡ b
same-is true b h = sym h
same-is false true h = h
same-is false false h = refl

right : ℕ → ℕ → ℕ → Bool
right l h j = pick (leb l h) (leb (power l) (power h) && (ltb (power h - power l) 256 && same (bit_of (power h - power l) j) (leb l j && ltb j h))) true

every : ℕ → (ℕ → Bool) → Bool
every zero f = true
every (suc n) f = f n && every n f

each : (n : ℕ) (f : ℕ → Bool) → every n f ≡ true → (i : ℕ) → i < n → f i ≡ true
unfolding every
each zero f h i l = absurd (omega arith)
each (suc n) f h i l = go (eqb i n) refl (λ k. each n f (both (f n) (every n f) h).1 i k)
  where
    go : (b : Bool) → eqb i n ≡ b → (i < n → f i ≡ true) → f i ≡ true
    go true e k = ap f (eqb-true i n e) ∙ (both (f n) (every n f) h).0
    go false e k = k (omega (arith, eqb-false i n e))

all_right : every 9 (λ l. every 9 (λ h. every 8 (λ j. right l h j))) ≡ true
unfolding every right
all_right = refl

pub record Mask (l h j : ℕ) : Type 0 where
  pub order : power l ≤ power h
  pub fits : power h - power l < 256
  pub bit : bit_of (power h - power l) j ≡ (leb l j && ltb j h)

pub mask_at : (l h j : ℕ) → l ≤ h → h ≤ 8 → j < 8 → Mask l h j
unfolding right
mask_at l h j p q r =
    let w : right l h j ≡ true = each 8 (λ j. right l h j) (each 9 (λ h. every 8 (λ j. right l h j)) (each 9 (λ l. every 9 (λ h. every 8 (λ j. right l h j))) all_right l (omega arith)) h (omega arith)) j r in
    let x = rw (le-leb l h p) at w in
    let y = both _ _ x in
    let z = both _ _ y.1 in
    record { order = leb-true (power l) (power h) y.0; fits = ltb-true (power h - power l) 256 z.0; bit = same-is _ _ z.1 }

-- ---- the bits of blocks: those from i on that lie in its byte, as far as `high`

module _ (t : List ℕ) (v : Bool) (base i high m r : ℕ) (long : length t ≡ 3136) (least : base ≤ 1568) (low : i < 256) (k : IsMask (i % 8) high m) (p : IsPut (get_or t (base + i / 8) 0) m v r) where
  touched : (n : ℕ) → n / 8 ≡ i / 8 → held_at (set t (base + i / 8) r) base n ≡ pick (leb (i % 8) (n % 8) && ltb (n % 8) high) v (held_at t base n)
  unfolding held_at
  touched n e =
      let q : base + i / 8 < length t = omega arith in
      let l : n % 8 < 8 = omega arith in
      rw (e, get_or-set_same t (base + i / 8) r 0 q, p (n % 8), k (n % 8) l)

  apart : (n : ℕ) → (n / 8 ≡ i / 8 → ⊥) → held_at (set t (base + i / 8) r) base n ≡ held_at t base n
  unfolding held_at
  apart n e = rw (get_or-set_other t (base + i / 8) (base + n / 8) r 0 (λ d. e (omega (arith, d))))

  put_in : high ≤ 8 → (n : ℕ) → i ≤ n → n < 8 * (i / 8) + high → held_at (set t (base + i / 8) r) base n ≡ v
  put_in w n a b =
      touched n (omega arith) ∙ rw (le-leb (i % 8) (n % 8) (omega arith), lt-ltb (n % 8) high (omega arith))

  kept_below : (n : ℕ) → n < i → held_at (set t (base + i / 8) r) base n ≡ held_at t base n
  kept_below n a = go (eqb (n / 8) (i / 8)) refl
    where
      go : (b : Bool) → eqb (n / 8) (i / 8) ≡ b → held_at (set t (base + i / 8) r) base n ≡ held_at t base n
      go true e = let q : n / 8 ≡ i / 8 = eqb-true (n / 8) (i / 8) e in touched n q ∙ rw (lt-leb (i % 8) (n % 8) (omega arith))
      go false e = apart n (eqb-false (n / 8) (i / 8) e)

  kept_above : (n : ℕ) → 8 * (i / 8) + high ≤ n → held_at (set t (base + i / 8) r) base n ≡ held_at t base n
  kept_above n a = go (eqb (n / 8) (i / 8)) refl
    where
      go : (b : Bool) → eqb (n / 8) (i / 8) ≡ b → held_at (set t (base + i / 8) r) base n ≡ held_at t base n
      go true e =
          let q : n / 8 ≡ i / 8 = eqb-true (n / 8) (i / 8) e in
          touched n q ∙ rw (le-ltb (n % 8) high (omega arith)) (and_false (leb (i % 8) (n % 8)))
        where
          and_false : (b : Bool) → pick (b && false) v (held_at t base n) ≡ held_at t base n
          and_false true = refl
          and_false false = refl
      go false e = apart n (eqb-false (n / 8) (i / 8) e)

-- ---- the bits kept of a byte, i the next block

pub kept_next : (t : List ℕ) (base i bits : ℕ) → bits ≡ bits_at t base i → Kept t base (i + 1) (bits / 2)
kept_next t base i bits h = record { rest = rest }
  where
    rest : 0 < (i + 1) % 8 → bits / 2 ≡ bits_at t base (i + 1)
    rest l =
        let p : (i + 1) / 8 ≡ i / 8 = omega arith in
        let q : (i + 1) % 8 ≡ i % 8 + 1 = omega arith in
        rw (h, p, q) (shr-shr (get_or t (base + i / 8) 0) (i % 8) 1)

pub held_odd : (t : List ℕ) (base i bits : ℕ) → bits ≡ bits_at t base i → held_at t base i ≡ eqb (bits % 2) 1
unfolding held_at
held_odd t base i bits h = rw h

-- ---- a mask of one bit, that of block i

module _ (b m k : ℕ) (h : m ≡ 2 ^ k) where
  one_bit : bit_and b m ≡ b / 2 ^ k % 2 * 2 ^ k
  one_bit =
      let p : 2 ^ k ≡ 2 ^ (1 + k) - 2 ^ k = rw (suc-add 0 k, zero-add k, pow-suc 2 k) (omega arith) in
      ap (bit_and b) (h ∙ p) ∙ and_high b 1 k

  pub bit_clear : bit_and b m ≡ 0 → b / 2 ^ k % 2 ≡ 0
  bit_clear z = go (b / 2 ^ k % 2) (sym one_bit ∙ z)
    where
      go : (x : ℕ) → x * 2 ^ k ≡ 0 → x ≡ 0
      go zero e = refl
      go (suc x) e = absurd (omega (arith, suc-mul x (2 ^ k), e, pow_pos k))

  pub bit_set : (bit_and b m ≡ 0 → ⊥) → b / 2 ^ k % 2 ≡ 1
  bit_set z = go (b / 2 ^ k % 2) (omega arith) one_bit
    where
      go : (x : ℕ) → x < 2 → bit_and b m ≡ x * 2 ^ k → x ≡ 1
      go zero l e = absurd (z (e ∙ zero-mul (2 ^ k)))
      go (suc zero) l e = refl
      go (suc (suc x)) l e = absurd (omega arith)

-- the code's rotation, for each of the eight
abbrev rotated : ℕ → ℕ
rotated m = bit_or (m * 2 ^ 1 % 2 ^ 8) (m / 2 ^ 7)

rotates : ℕ → Bool
rotates k = eqb (rotated (2 ^ k)) (2 ^ ((k + 1) % 8))

all_rotate : every 8 rotates ≡ true
unfolding every rotates
all_rotate = refl

pub rotate : (i m : ℕ) → m ≡ 2 ^ (i % 8) → rotated m ≡ 2 ^ ((i + 1) % 8)
unfolding rotates
rotate i m h =
    let p : (i % 8 + 1) % 8 ≡ (i + 1) % 8 = omega arith in
    ap rotated h ∙ eqb-true _ _ (each 8 rotates all_rotate (i % 8) (omega arith)) ∙ ap (λ (k : ℕ). 2 ^ k) p

-- ---- marking from s on, i the next

pub mark_begins : (v : Bool) (base s : ℕ) (t : List ℕ) → Marked v base s s t t
mark_begins v base s t = record { inside = λ i a b. absurd (omega arith); below = λ i a. refl; above = λ i a. refl; lower = λ p a. refl; upper = λ p a. refl; long = refl }

pub mark_next : (v : Bool) (base s i high m r : ℕ) (t₀ t : List ℕ) → Marked v base s i t₀ t → length t ≡ 3136 → base ≤ 1568 → s ≤ i → i < 256 → i % 8 < high → high ≤ 8 → IsMask (i % 8) high m → IsPut (get_or t (base + i / 8) 0) m v r →
    Marked v base s (8 * (i / 8) + high) t₀ (set t (base + i / 8) r)
mark_next v base s i high m r t₀ t h long least o low a w k p =
    record { inside = inside; below = below; above = above; lower = λ q l. get_or-set_other t (base + i / 8) q r 0 (omega arith) ∙ h.lower q l; upper = λ q l. get_or-set_other t (base + i / 8) q r 0 (omega arith) ∙ h.upper q l; long = length-set t (base + i / 8) r ∙ h.long }
  where
    inside : (n : ℕ) → s ≤ n → n < 8 * (i / 8) + high → held_at (set t (base + i / 8) r) base n ≡ v
    inside n x y = go (ltb n i) refl
      where
        go : (b : Bool) → ltb n i ≡ b → held_at (set t (base + i / 8) r) base n ≡ v
        go true e = let l = ltb-true n i e in kept_below t v base i high m r long least low k p n l ∙ h.inside n x l
        go false e = put_in t v base i high m r long least low k p w n (ltb-false n i e) y

    below : (n : ℕ) → n < s → held_at (set t (base + i / 8) r) base n ≡ held_at t₀ base n
    below n x = kept_below t v base i high m r long least low k p n (omega arith) ∙ h.below n x

    above : (n : ℕ) → 8 * (i / 8) + high ≤ n → held_at (set t (base + i / 8) r) base n ≡ held_at t₀ base n
    above n x = kept_above t v base i high m r long least low k p n x ∙ h.above n (omega arith)

-- ---- clearing from s on, as far as e: what is put there is zeros

module _ (t ys : List ℕ) (s e : ℕ) (o : s ≤ e) (l : e ≤ length t) (h : ys ≡ replicate (length (mid_of s (e - s) t)) 0) where
  part : length (mid_of s (e - s) t) ≡ e - s
  part = length-take-le (e - s) (drop s t) (omega (arith, length-drop s t))

  count : length ys ≡ e - s
  count = ap length h ∙ length-replicate (length (mid_of s (e - s) t)) 0 ∙ part

  first : length (take s t) ≡ s
  first = length-take-le s t (omega arith)

  all_cleared : Cleared s e t (put_mid s (e - s) t ys)
  all_cleared =
      record {
        inside = λ p a b.
            get_or-append_right (take s t) (ys ++ post_of s (e - s) t) s p 0 first a
            ∙ get_or-append ys (post_of s (e - s) t) 0 (p - s) (omega (arith, count))
            ∙ ap (λ (x : List ℕ). get_or x (p - s) 0) h
            ∙ get_or-replicate (length (mid_of s (e - s) t)) (p - s) 0 0 (omega (arith, part));
        below = λ p a. get_or-append (take s t) (ys ++ post_of s (e - s) t) 0 p (omega (arith, first)) ∙ get_or-take s t p 0 a;
        above = λ p a.
            let q : s + (e - s + (p - s - (e - s))) ≡ p = omega arith in
            get_or-append_right (take s t) (ys ++ post_of s (e - s) t) s p 0 first (omega arith)
            ∙ get_or-append_right ys (post_of s (e - s) t) (e - s) (p - s) 0 count (omega arith)
            ∙ get_or-drop (e - s) (drop s t) (p - s - (e - s)) 0
            ∙ get_or-drop s t (e - s + (p - s - (e - s))) 0
            ∙ ap (λ (j : ℕ). get_or t j 0) q;
        long = same_len_mid s (e - s) t ys (count ∙ sym part);
      }

  pub cleared : (f : ℕ) → e ≡ f → Cleared s f t (put_mid s (e - s) t ys)
  cleared f q = subst (λ (x : ℕ). Cleared s x t (put_mid s (e - s) t ys)) q all_cleared
