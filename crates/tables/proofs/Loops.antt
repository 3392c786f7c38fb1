-- A table searched block by block: what one more block tells.
use Prim.Native.Nat.{ℕ, suc, ◌+◌, ◌-◌, ◌≤◌, ◌<◌}
use mathlib.Core.Bool.{Bool, true, false}
use mathlib.Core.Path.{◌≡◌, sym, ap, subst₂, ◌∙◌}
use mathlib.Core.List.{List}
use native.Mathlib.Omega.{arith}
use native.Mathlib.Nat.{add-zero, zero-add}
use native.Mathlib.Numerals.{add-one}
use lib.ListN.{length}
use Rattle.wire.specs.Choice.{pick}
use Rattle.wire.specs.Reads.{Reads, answer, positions_read}
use Rattle.blocks.specs.Search.{Search, nowhere, found_at}
use Rattle.blocks.specs.Tables.{in_use, free_from}
use Rattle.blocks.specs.OnePass.{uses, searching_from, searching, looked, OnePass}
use Rattle.blocks.proofs.OnePass.{Leads, at_last, at-free, at_held, one_pass}
use Rattle.blocks.specs.declared.Use.TheVariants.{Free}
use Rattle.blocks.specs.declared.Entry.{Entry}

-- ---- free entries counted, i the next of n

pub record Counted (t : List Entry) (n free i : ℕ) : Type 0 where
  pub rest : free + free_from t i (n - i) ≡ free_from t 0 n

pub count_begins : (t : List Entry) (n : ℕ) → Counted t n 0 0
count_begins t n = let p : n - 0 ≡ n = omega arith in record { rest = rw p (zero-add (free_from t 0 n)) }

count_next : (t : List Entry) (n i : ℕ) (b : Bool) → i < n → in_use Free t i ≡ b → free_from t i (n - i) ≡ pick b 1 0 + free_from t (i + 1) (n - (i + 1))
unfolding free_from
count_next t n i b l u =
    let p : n - i ≡ suc (n - (i + 1)) = omega arith in
    rw (p, u, add-one i)

module _ {t : List Entry} {n free i : ℕ} (h : Counted t n free i) where
  pub count_free : i < n → in_use Free t i ≡ true → Counted t n (free + 1) (i + 1)
  count_free l u = record { rest = omega (arith, h.rest, count_next t n i true l u) }

  pub count_held : i < n → in_use Free t i ≡ false → Counted t n free (i + 1)
  count_held l u = record { rest = omega (arith, h.rest, count_next t n i false l u) }

  pub count_ends : n ≤ i → free ≡ free_from t 0 n
  unfolding free_from
  count_ends l = let p : n - i ≡ 0 = omega arith in sym (sym h.rest ∙ rw p (add-zero free))

-- ---- the search for a run, i blocks looked at, the last `run` of them free

-- what is left of it is the search from here on
pub record Onward (t : List Entry) (c n run i : ℕ) : Type 0 where
  pub answers : answer (searching c n) (uses t) ≡ answer (searching_from n (c - i) run i) (uses t)
  pub looks : length (looked c t n) ≡ i + length (positions_read (searching_from n (c - i) run i) (uses t))

pub search_begins : (t : List Entry) (c n : ℕ) → Onward t c n 0 0
search_begins t c n =
    let p : c - 0 ≡ c = omega arith in
    record { answers = rw p; looks = rw p (sym (zero-add (length (looked c t n)))) }

-- what it answers, and how many it has looked at, are those of the whole
passed : (c : ℕ) (t : List Entry) (n : ℕ) (found : Search) (k : ℕ) → 1 ≤ n → answer (searching c n) (uses t) ≡ found → length (looked c t n) ≡ k → OnePass c t n found k
passed c t n found k o a h = subst₂ (OnePass c t n) a h (one_pass t c n o)

module _ {t : List Entry} {c n run i : ℕ} (h : Onward t c n run i) where
  turn : {k : Reads Search} → i < c → Leads t n (c - suc i) run i k → (answer (searching c n) (uses t) ≡ answer k (uses t)) × (length (looked c t n) ≡ suc i + length (positions_read k (uses t)))
  turn {k} l w =
      let p : c - i ≡ suc (c - suc i) = omega arith in
      let q : length (positions_read (searching_from n (c - i) run i) (uses t)) ≡ suc (length (positions_read k (uses t))) = rw p (ap length w.looks) in
      (h.answers ∙ rw p w.answers, omega (arith, h.looks))

  pub past-free : i < c → run + 1 < n → in_use Free t i ≡ true → Onward t c n (run + 1) (i + 1)
  past-free l m u =
      let w = turn l (at-free t n (c - suc i) run i u (λ e. omega arith)) in
      record { answers = simp add-one w.0; looks = simp add-one w.1 }

  pub past-held : i < c → in_use Free t i ≡ false → Onward t c n 0 (i + 1)
  past-held l u =
      let w = turn l (at_held t n (c - suc i) run i u) in
      record { answers = simp add-one w.0; looks = simp add-one w.1 }

  -- k turns were counted
  pub found-run : {k : ℕ} → i < c → run + 1 ≡ n → in_use Free t i ≡ true → k ≡ i + 1 → OnePass c t n (found_at (i + 1 - n)) k
  found-run {k} l e u q =
      let w = turn l (at_last t n (c - suc i) run i u (omega arith)) in
      passed c t n (found_at (i + 1 - n)) k (omega arith) (simp add-one w.0) (omega (arith, w.1))

  pub found_nowhere : {k : ℕ} → i ≡ c → 1 ≤ n → k ≡ i → OnePass c t n nowhere k
  unfolding searching_from
  found_nowhere {k} e o q =
      let p : c - i ≡ 0 = omega arith in
      passed c t n nowhere k o (h.answers ∙ rw p) (h.looks ∙ rw p (add-zero i) ∙ sym q)
