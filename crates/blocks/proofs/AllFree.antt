-- Free entries from s on, i the next: what one more tells.
use Prim.Native.Nat.{ℕ, zero, suc, ◌+◌, ◌-◌, ◌≤◌, ◌<◌}
use mathlib.Core.Bool.{true, false}
use mathlib.Core.Logic.{⊎_elim}
use mathlib.Core.Path.{◌≡◌, sym, ap, ◌∙◌}
use mathlib.Core.List.{List}
use native.Mathlib.Omega.{arith}
use native.Mathlib.Nat.{add-suc, suc-add, add-zero, eq-or-lt_of_le}
use Rattle.wire.proofs.Choices.{both, and_false}
use Rattle.blocks.specs.Tables.{in_use, all_free}
use Rattle.blocks.specs.declared.Use.TheVariants.{Free}
use Rattle.blocks.specs.declared.Entry.{Entry}

free_more : (t : List Entry) (s k : ℕ) → all_free t s k ≡ true → in_use Free t (s + k) ≡ true → all_free t s (suc k) ≡ true
unfolding all_free
free_more t s zero h u = rw (ap (in_use Free t) (sym (add-zero s)) ∙ u)
free_more t s (suc k) h u =
    let p = both (in_use Free t s) (all_free t (suc s) k) h in
    rw p.0 (free_more t (suc s) k p.1 (ap (in_use Free t) (suc-add s k ∙ sym (add-suc s k)) ∙ u))

pub free-next : (t : List Entry) (s i : ℕ) → s ≤ i → all_free t s (i - s) ≡ true → in_use Free t i ≡ true → all_free t s (i + 1 - s) ≡ true
free-next t s i h q u =
    let p : i + 1 - s ≡ suc (i - s) = omega arith in
    let r : s + (i - s) ≡ i = omega arith in
    ap (all_free t s) p ∙ free_more t s (i - s) q (ap (in_use Free t) r ∙ u)

pub none_free : (t : List Entry) (s : ℕ) → all_free t s (s - s) ≡ true
unfolding all_free
none_free t s = let p : s - s ≡ 0 = omega arith in rw p

-- a held block stops every run over it
pub held_between : (t : List Entry) (s n i : ℕ) → s ≤ i → i < s + n → in_use Free t i ≡ false → all_free t s n ≡ false
unfolding all_free
held_between t s zero i l m u = absurd (omega arith)
held_between t s (suc n) i l m u =
    ⊎_elim
    (λ (q : s ≡ i). rw (ap (in_use Free t) q ∙ u))
    (λ (q : s < i). rw (held_between t (suc s) n i q (omega arith) u) (and_false (in_use Free t s)))
    (eq-or-lt_of_le l)
