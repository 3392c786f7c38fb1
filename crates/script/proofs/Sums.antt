-- Sums of bytes by their positions.
use Prim.Native.Nat.{ℕ, suc, ◌+◌, ◌-◌, ◌*◌, ◌/◌, ◌%◌, ◌≤◌, ◌<◌}
use mathlib.Core.Path.{◌≡◌, sym, ap, ◌∙◌}
use mathlib.Core.List.{List, [], ◌∷◌, ◌++◌}
use native.Mathlib.Nat.{mul-le-mul, mul-add, mul_comm, mul_assoc, suc-add, zero-add, add-zero}
use native.Mathlib.Omega.{arith}
use lib.ListN.{length, get_or, take, drop, length-take, length-drop, take-append-drop}
use lib.Seq.{drop-drop}
use Rattle.wire.proofs.Lists.{drop-next, drop_all}
use Rattle.script.specs.Rows.{weighted, sum}

-- a byte times a weight
pub term_small : (b w : ℕ) → b ≤ 255 → w ≤ 69617 → b * w ≤ 17752335
term_small b w h k = mul-le-mul h k

-- ---- one byte after the other, i the next

pub record Summed (p : ℕ) (s : List ℕ) (sum i : ℕ) : Type 0 where
  rest : sum + weighted (p + i) (drop i s) ≡ weighted p s

pub sum-begins : (p : ℕ) (s : List ℕ) → Summed p s 0 0
sum-begins p s = record { rest = rw (add-zero p, zero-add (weighted p s)) }

module _ {p : ℕ} {s : List ℕ} {t i : ℕ} (h : Summed p s t i) where
  pub sum-next : (w : ℕ) → i < length s → w ≡ p + 1 + i → Summed p s (t + get_or s i 0 * w) (i + 1)
  unfolding weighted
  sum-next w l e =
      let q : p + (i + 1) ≡ suc (p + i) = omega arith in
      let v : w ≡ suc (p + i) = omega arith in
      let n : weighted (p + i) (drop i s) ≡ get_or s i 0 * suc (p + i) + weighted (suc (p + i)) (drop (i + 1) s) = ap (weighted (p + i)) (drop-next s i l) in
      record { rest = rw (q, v) (omega (arith, h.rest, n)) }

  pub sum-ends : length s ≤ i → t ≡ weighted p s
  unfolding weighted
  sum-ends l =
      let n : weighted (p + i) (drop i s) ≡ 0 = ap (weighted (p + i)) (drop_all s i l) in
      omega (arith, h.rest, n)

-- ---- piece by piece, modulo 65,521

-- of the bytes alone
abbrev plain : List ℕ → ℕ
plain [] = 0
plain (b ∷ s) = b + plain s

weighted_shift : (q d : ℕ) (s : List ℕ) → weighted (q + d) s ≡ weighted q s + d * plain s
unfolding weighted
weighted_shift q d [] = omega arith
weighted_shift q d (b ∷ s) =
    let i : weighted (suc (q + d)) s ≡ weighted (suc q) s + d * plain s = ap (λ (k : ℕ). weighted k s) (sym (suc-add q d)) ∙ weighted_shift (suc q) d s in
    let m : b * suc (q + d) ≡ b * suc q + b * d = ap (λ (k : ℕ). b * k) (sym (suc-add q d)) ∙ mul-add b (suc q) d in
    omega (arith, i, m, mul-add d b (plain s), mul_comm b d)

weighted_remainder : (p : ℕ) (s : List ℕ) → weighted p s ≡ weighted (p % 65521) s + 65521 * (p / 65521 * plain s)
weighted_remainder p s =
    let e : p ≡ p % 65521 + 65521 * (p / 65521) = omega arith in
    ap (λ (k : ℕ). weighted k s) e ∙ weighted_shift (p % 65521) (65521 * (p / 65521)) s
    ∙ ap (λ (k : ℕ). weighted (p % 65521) s + k) (mul_assoc 65521 (p / 65521) (plain s))

weighted-append : (p : ℕ) (xs ys : List ℕ) → weighted p (xs ++ ys) ≡ weighted p xs + weighted (p + length xs) ys
unfolding weighted
weighted-append p [] ys = rw (add-zero p) (sym (zero-add (weighted p ys)))
weighted-append p (x ∷ xs) ys =
    let q : suc p + length xs ≡ p + suc (length xs) = omega arith in
    omega (arith, weighted-append (suc p) xs ys, ap (λ (k : ℕ). weighted k ys) q)

pub record Pieces (s : List ℕ) (total p : ℕ) : Type 0 where
  rest : (total + weighted p (drop p s)) % 65521 ≡ sum s

pub pieces_begin : (s : List ℕ) → Pieces s 0 0
pieces_begin s = record { rest = ap (λ (k : ℕ). k % 65521) (zero-add (weighted 0 s)) }

module _ {s : List ℕ} {t p : ℕ} (h : Pieces s t p) where
  pub pieces_next : (e v : ℕ) → p ≤ e → e ≤ length s → v ≡ weighted (p % 65521) (take (e - p) (drop p s)) → Pieces s ((t + v) % 65521) e
  pieces_next e v a b k =
      let part : List ℕ = take (e - p) (drop p s) in
      let n : length part ≡ e - p = simp (length-take, length-drop) (omega arith) in
      let q : p + (e - p) ≡ e = omega arith in
      let split : weighted p (drop p s) ≡ weighted p part + weighted e (drop e s) =
      ap (weighted p) (sym (take-append-drop (e - p) (drop p s)))
      ∙ weighted-append p part (drop (e - p) (drop p s))
      ∙ rw (drop-drop (e - p) p s, n, q) in
      record { rest = sym (sym h.rest ∙ omega (arith, split, weighted_remainder p part)) }

  pub pieces_end : length s ≤ p → t < 65521 → t ≡ sum s
  unfolding weighted
  pieces_end l b =
      let n : weighted p (drop p s) ≡ 0 = ap (weighted p) (drop_all s p l) in
      omega (arith, h.rest, n)
