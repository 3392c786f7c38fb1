-- Numbers put into the caller's answer, one after the other.
use Prim.Native.Nat.{ℕ, suc, ◌+◌, ◌≤◌, ◌<◌, min}
use mathlib.Core.Bool.{Bool, true, false}
use mathlib.Core.Path.{◌≡◌, refl, ap, subst, ◌∙◌}
use mathlib.Core.List.{List}
use native.Mathlib.Nat.{zero-add, min-eq_left, min-eq_right}
use native.Mathlib.Omega.{arith}
use native.Mathlib.Numerals.{add-one}
use lib.Dec.{leb}
use borrow.Author.Tests.{leb-true, leb-false}
use lib.ListN.{length, get_or, set}
use lib.Seq.{set_out}
use Rattle.wire.specs.Bytes.{straight, bytes, writes, wrote}
use Rattle.wire.proofs.Positions.{length-wrote, bytes_that_fit, copy_step}
use Rattle.panel.specs.Answers.{answered}

-- s after the first i of the numbers
abbrev pub after_first : List ℕ → List ℕ → ℕ → List ℕ
after_first s numbers i = wrote s (writes (straight 0) (bytes numbers (straight 0) i))

pub one_more : (s numbers : List ℕ) (i : ℕ) → set (after_first s numbers i) i (get_or numbers i 0) ≡ after_first s numbers (i + 1)
one_more s numbers i =
    rw (add-one i)
    (subst (λ (k : ℕ). set (after_first s numbers i) k (get_or numbers k 0) ≡ after_first s numbers (suc i)) (zero-add i)
    (copy_step (straight 0) (straight 0) numbers s i))

pub none_yet : (s numbers : List ℕ) → s ≡ after_first s numbers (min 0 (length s))
unfolding wrote writes bytes
none_yet s numbers =
    let less : 0 ≤ length s = omega arith in
    rw (min-eq_left less)

-- where the answer s is too short, a store behind its end does nothing
pub one_more_that_fits : (s numbers : List ℕ) (i : ℕ) → set (after_first s numbers (min i (length s))) i (get_or numbers i 0) ≡ after_first s numbers (min (i + 1) (length s))
one_more_that_fits s numbers i = go (leb (length s) i) refl
  where
    go : (b : Bool) → leb (length s) i ≡ b → set (after_first s numbers (min i (length s))) i (get_or numbers i 0) ≡ after_first s numbers (min (i + 1) (length s))
    go true h =
        let le : length s ≤ i = leb-true (length s) i h in
        let more : length s ≤ i + 1 = omega arith in
        let n : length (after_first s numbers (length s)) ≡ length s = length-wrote s _ in
        rw (min-eq_right le, min-eq_right more) (set_out _ i _ (omega arith))
    go false h =
        let lt : i < length s = leb-false (length s) i h in
        let less : i ≤ length s = omega arith in
        let more : i + 1 ≤ length s = omega arith in
        rw (min-eq_left less, min-eq_left more) (one_more s numbers i)

pub all_that_fit : (s numbers : List ℕ) (i : ℕ) → i ≡ min (length s) (length numbers) → after_first s numbers i ≡ answered s numbers
unfolding answered
all_that_fit s numbers i e =
    ap (after_first s numbers) e ∙ ap (λ (l : List ℕ). wrote s (writes (straight 0) l)) (bytes_that_fit numbers (length s))
