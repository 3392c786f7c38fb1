-- The search for a run, turn by turn: it finds what the rule says, looks at each block once and in order, and at no more than there are.
use Prim.Native.Nat.{ℕ, zero, suc, ◌+◌, ◌-◌, ◌≤◌, ◌<◌}
use mathlib.Core.Bool.{Bool, true, false}
use mathlib.Core.Path.{◌≡◌, refl, sym, ap, ◌∙◌}
use mathlib.Core.List.{List, [], ◌∷◌}
use native.Mathlib.Omega.{arith}
use native.Mathlib.Nat.{add-suc, suc-add, add-zero, zero-add}
use native.Mathlib.Numerals.{add-one}
use lib.Dec.{leb, eqb}
use lib.ListN.{get_or, length}
use borrow.Author.Tests.{le-leb, lt-leb, eqb-true, eqb-false, eq-eqb, ne_eqb}
use Rattle.std.specs.Prelude.{Option, Some, None}
use Rattle.wire.specs.Choice.{pick}
use Rattle.wire.specs.Bytes.{straight, positions}
use Rattle.wire.specs.Reads.{Reads, gives, answer, positions_read}
use Rattle.wire.proofs.Choices.{and_false}
use Rattle.wire.proofs.Positions.{positions_on}
use Rattle.blocks.specs.Search.{Search, nowhere, found_at}
use Rattle.blocks.specs.Tables.{use_number, entry, in_use, all_free, lowest, free_run, search_of, FoundBelow}
use Rattle.blocks.specs.OnePass.{uses, searching_from, searching, looked, turns_to, OnePass}
use Rattle.blocks.proofs.Onward.{onward}
use Rattle.blocks.proofs.AllFree.{free-next, none_free, held_between}
use Rattle.blocks.specs.declared.Use.TheVariants.{Free}
use Rattle.blocks.specs.declared.Entry.{Entry}

-- ---- the lowest run, by the starts that no longer serve

-- no start up to a held block i serves
skip : (k f : ℕ) (t : List Entry) (s n l i : ℕ) → s + k ≡ i + 1 → i < s + n → in_use Free t i ≡ false → lowest (k + f) t s n l ≡ lowest f t (s + k) n l
unfolding lowest
skip zero f t s n l i e m u = rw (zero-add f, add-zero s)
skip (suc k) f t s n l i e m u =
    let r : s ≤ i = omega arith in
    rw (suc-add k f, held_between t s n i r m u, and_false (leb (s + n) l), add-suc s k)
    (skip k f t (suc s) n l i (omega arith) (omega arith) u ∙ ap (λ (j : ℕ). lowest f t j n l) (suc-add s k))

search_on : (t : List Entry) (n l s i : ℕ) → s ≤ i → i < l → i - s < n → in_use Free t i ≡ false → lowest (l - s) t s n l ≡ lowest (l - (i + 1)) t (i + 1) n l
search_on t n l s i a b m u =
    let p : l - s ≡ (i + 1 - s) + (l - (i + 1)) = omega arith in
    let q : s + (i + 1 - s) ≡ i + 1 = omega arith in
    ap (λ (f : ℕ). lowest f t s n l) p ∙ skip (i + 1 - s) (l - (i + 1)) t s n l i q (omega arith) u ∙ ap (λ (j : ℕ). lowest (l - (i + 1)) t j n l) q

search_hit : (t : List Entry) (n l s f : ℕ) → 0 < f → s + n ≤ l → all_free t s n ≡ true → lowest f t s n l ≡ found_at s
unfolding lowest
search_hit t n l s zero p h u = absurd (omega arith)
search_hit t n l s (suc f) p h u = rw (le-leb (s + n) l h, u)

search_out : (f : ℕ) (t : List Entry) (s n l : ℕ) → l < s + n → lowest f t s n l ≡ nowhere
unfolding lowest
search_out zero t s n l h = refl
search_out (suc f) t s n l h = rw (lt-leb (s + n) l h) (search_out f t (suc s) n l (omega arith))

-- the search among a table's first l entries for n free ones: those from `start` to i are free, and no lower start serves
record NoLower (t : List Entry) (l n start i : ℕ) : Type 0 where
  low : start ≤ i
  high : i ≤ l
  near : i - start ≤ n
  free : all_free t start (i - start) ≡ true
  rest : free_run l t n ≡ lowest (l - start) t start n l

lower-begins : (t : List Entry) (l n : ℕ) → NoLower t l n 0 0
unfolding free_run
lower-begins t l n =
    record { low = omega arith; high = omega arith; near = omega arith; free = none_free t 0; rest = (let p : l ≡ l - 0 = omega arith in ap (λ (m : ℕ). lowest m t 0 n l) p) }

module _ {t : List Entry} {l n start i : ℕ} (h : NoLower t l n start i) where
  lower-free : i < l → i - start < n → in_use Free t i ≡ true → NoLower t l n start (i + 1)
  lower-free b m u =
      record { low = omega (arith, h.low); high = omega arith; near = omega (arith, h.low); free = free-next t start i h.low h.free u; rest = h.rest }

  lower-held : i < l → i - start < n → in_use Free t i ≡ false → NoLower t l n (i + 1) (i + 1)
  lower-held b m u =
      record { low = omega arith; high = omega arith; near = omega arith; free = none_free t (i + 1); rest = h.rest ∙ search_on t n l start i h.low b m u }

  lower-nowhere : i ≡ l → i - start < n → free_run l t n ≡ nowhere
  lower-nowhere e m = h.rest ∙ search_out (l - start) t start n l (omega (arith, h.low))

  lower-run : 1 ≤ n → n ≤ i - start → free_run l t n ≡ found_at start
  lower-run o m =
      let p : i - start ≡ n = omega (arith, h.near) in
      let q : start + n ≤ l = omega (arith, h.low, h.high) in
      h.rest ∙ search_hit t n l start (l - start) (omega arith) q (ap (all_free t start) (sym p) ∙ h.free)

-- ---- one turn

use_at : (t : List Entry) (i : ℕ) → get_or (uses t) i 0 ≡ use_number (entry t i).usage
unfolding uses
use_at [] i = refl
use_at (x ∷ t) zero = refl
use_at (x ∷ t) (suc i) = use_at t i

module _ (t : List Entry) (n f run i : ℕ) (b : Bool) (u : in_use Free t i ≡ b) where
  seen : eqb 0 (get_or (uses t) i 0) ≡ b
  seen = ap (eqb 0) (use_at t i) ∙ u

  turn-answer : answer (searching_from n (suc f) run i) (uses t) ≡ answer (onward n f run i b) (uses t)
  unfolding searching_from
  turn-answer = ap (λ (x : Bool). answer (onward n f run i x) (uses t)) seen

  turn_looks : positions_read (searching_from n (suc f) run i) (uses t) ≡ i ∷ positions_read (onward n f run i b) (uses t)
  unfolding searching_from
  turn_looks = ap (λ (x : Bool). i ∷ positions_read (onward n f run i x) (uses t)) seen

-- by what it sees: the last block that the run wants, another free one, a held one
module _ (t : List Entry) (n f run i : ℕ) where
  pub record Leads (k : Reads Search) : Type 0 where
    pub answers : answer (searching_from n (suc f) run i) (uses t) ≡ answer k (uses t)
    pub looks : positions_read (searching_from n (suc f) run i) (uses t) ≡ i ∷ positions_read k (uses t)

  by_free : (w : Bool) → in_use Free t i ≡ true → eqb (suc run) n ≡ w → Leads (pick w (gives (found_at (suc i - n))) (searching_from n f (suc run) (suc i)))
  by_free w u e = record { answers = turn-answer t n f run i true u ∙ rw e; looks = turn_looks t n f run i true u ∙ rw e }

  pub at_last : in_use Free t i ≡ true → suc run ≡ n → Leads (gives (found_at (suc i - n)))
  at_last u e = by_free true u (eq-eqb (suc run) n e)

  pub at-free : in_use Free t i ≡ true → (suc run ≡ n → ⊥) → Leads (searching_from n f (suc run) (suc i))
  at-free u e = by_free false u (ne_eqb (suc run) n e)

  pub at_held : in_use Free t i ≡ false → Leads (searching_from n f 0 (suc i))
  at_held u = record { answers = turn-answer t n f run i false u; looks = turn_looks t n f run i false u }

-- which of the three it is
data Sees (t : List Entry) (n run i : ℕ) : Type 0 where
  last : in_use Free t i ≡ true → suc run ≡ n → Sees t n run i
  free : in_use Free t i ≡ true → (suc run ≡ n → ⊥) → Sees t n run i
  held : in_use Free t i ≡ false → Sees t n run i

sees : (t : List Entry) (n run i : ℕ) → Sees t n run i
sees t n run i = go (in_use Free t i) (eqb (suc run) n) refl refl
  where
    go : (b w : Bool) → in_use Free t i ≡ b → eqb (suc run) n ≡ w → Sees t n run i
    go true true u e = last u (eqb-true (suc run) n e)
    go true false u e = free u (eqb-false (suc run) n e)
    go false w u e = held u

-- ---- the whole search

module _ (t : List Entry) (c n : ℕ) where
  -- it finds what the rule says. The free blocks before i begin at s
  rule_on : (f run i s : ℕ) → i < c → s + run ≡ i → run < n → NoLower t c n s i → Sees t n run i →
      (suc run < n → NoLower t c n s (suc i) → answer (searching_from n f (suc run) (suc i)) (uses t) ≡ free_run c t n) →
      (NoLower t c n (suc i) (suc i) → answer (searching_from n f 0 (suc i)) (uses t) ≡ free_run c t n) → answer (searching_from n (suc f) run i) (uses t) ≡ free_run c t n
  rule_on f run i s l a m h (last u e) g k =
      let p : suc i - n ≡ s = omega arith in
      (at_last t n f run i u e).answers ∙ ap found_at p ∙ sym (lower-run (lower-free h l (omega arith) u) (omega arith) (omega arith))
  rule_on f run i s l a m h (free u e) g k = (at-free t n f run i u e).answers ∙ g (omega arith) (rw add-one at (lower-free h l (omega arith) u))
  rule_on f run i s l a m h (held u) g k = (at_held t n f run i u).answers ∙ k (rw add-one at (lower-held h l (omega arith) u))

  by_rule : (f run i s : ℕ) → i + f ≡ c → s + run ≡ i → run < n → NoLower t c n s i → answer (searching_from n f run i) (uses t) ≡ free_run c t n
  unfolding searching_from
  by_rule zero run i s e a m h = sym (lower-nowhere h (omega arith) (omega arith))
  by_rule (suc f) run i s e a m h =
      rule_on f run i s (omega arith) a m h (sees t n run i) (λ l w. by_rule f (suc run) (suc i) s (omega arith) (omega arith) l w) (λ w. by_rule f 0 (suc i) (suc i) (omega arith) (omega arith) (omega arith) w)

  -- each block from i on, once and in order, f at most; the last is that of the run, or the last there is
  record Turns (f run i : ℕ) : Type 0 where
    in_order : positions_read (searching_from n f run i) (uses t) ≡ positions (straight i) (length (positions_read (searching_from n f run i) (uses t)))
    ends : i + length (positions_read (searching_from n f run i) (uses t)) ≡ turns_to c n (answer (searching_from n f run i) (uses t))
    most : length (positions_read (searching_from n f run i) (uses t)) ≤ f

  one_more : (f run i r : ℕ) → Leads t n f run i (searching_from n f r (suc i)) → Turns f r (suc i) → Turns (suc f) run i
  one_more f run i r h w =
      let k : ℕ = length (positions_read (searching_from n f r (suc i)) (uses t)) in
      record {
        in_order = rw h.looks (ap (λ (l : List ℕ). i ∷ l) w.in_order ∙ sym (positions_on i k));
        ends = rw (h.looks, h.answers) (add-suc i k ∙ sym (suc-add i k) ∙ w.ends);
        most = rw h.looks (omega (arith, w.most));
      }

  turns_on : (f run i : ℕ) → run ≤ i → run < n → Sees t n run i → (suc run < n → Turns f (suc run) (suc i)) → Turns f 0 (suc i) → Turns (suc f) run i
  turns_on f run i a m (last u e) g k =
      let h = at_last t n f run i u e in
      record { in_order = rw h.looks (sym (positions_on i 0)); ends = rw (h.looks, h.answers) (omega arith); most = rw h.looks (omega arith) }
  turns_on f run i a m (free u e) g k = one_more f run i (suc run) (at-free t n f run i u e) (g (omega arith))
  turns_on f run i a m (held u) g k = one_more f run i 0 (at_held t n f run i u) k

  turns : (f run i : ℕ) → i + f ≡ c → run ≤ i → run < n → Turns f run i
  unfolding searching_from
  turns zero run i e a m = record { in_order = refl; ends = e; most = omega arith }
  turns (suc f) run i e a m =
      turns_on f run i a m (sees t n run i) (λ l. turns f (suc run) (suc i) (omega arith) (omega arith) l) (turns f 0 (suc i) (omega arith) (omega arith) (omega arith))

  -- B10, for every table, count and length
  pub one_pass : 1 ≤ n → OnePass c t n (answer (searching c n) (uses t)) (length (looked c t n))
  one_pass o =
      let w = turns c 0 0 (zero-add c) (omega arith) o in
      record {
        lowest = by_rule c 0 0 0 (zero-add c) (omega arith) o (lower-begins t c n);
        searched = refl;
        in_order = w.in_order;
        ends = sym (zero-add (length (looked c t n))) ∙ w.ends;
        most = w.most;
      }

-- what it found lies among the first c
pub found_below : (r : Option ℕ) (c : ℕ) (t : List Entry) (n k : ℕ) → OnePass c t n (search_of r) k → FoundBelow r n c
found_below None c t n k h = tt
found_below (Some s) c t n k h = omega (arith, h.ends, h.most)
