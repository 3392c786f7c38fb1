-- The entries that the bytes of a table stand for, and what marking, clearing and storing make of them.
use Prim.Native.Nat.{ℕ, zero, suc, ◌+◌, ◌-◌, ◌*◌, ◌/◌, ◌%◌, ◌^◌, ◌≤◌, ◌<◌}
use mathlib.Core.Bool.{Bool, true, false, not}
use mathlib.Core.Logic.{◌⊎◌, inl, inr}
use mathlib.Core.Path.{◌≡◌, refl, sym, ap, ◌∙◌}
use mathlib.Core.List.{List}
use native.Mathlib.Omega.{arith}
use native.Mathlib.Nat.{add-zero, add-suc, suc-add, le_of_suc-le-suc, zero-div}
use lib.Dec.{eqb, ltb}
use lib.ListN.{get_or, set, length, length-set, replicate, length-replicate, get_or-replicate}
use lib.Seq.{get_or-set_same, get_or-set_other, ext_get_or}
use borrow.Author.Tests.{ltb-true, ltb-false, eq-eqb, ne_eqb}
use Rattle.std.specs.Int.{to_le_bytes}
use mir.Syntax.{w32}
use Rattle.wire.specs.Choice.{pick}
use Rattle.blocks.specs.Tables.{free_entry, inside_entry, run_entry, entry, is_use, in_use, fill, freed, taken}
use Rattle.blocks.specs.WellFormed.{block_kind, leading}
use Rattle.blocks.proofs.Tables.{Relation, below, first, later, above, relation, clash, length-fill, fill-below, fill-above, fill_in, fresh-entry}
use Rattle.blocks.specs.declared.Use.{Use}
use Rattle.blocks.specs.declared.Use.TheVariants.{Free, Inside, Reserved, SentData, SentBinding, ReceivedData, StoredBinding}
use Rattle.blocks.specs.declared.Entry.{Entry}
use Rattle.tables.proofs.Bits.{held_odd}
use Rattle.tables.specs.Compact.{bit_of, bits_at, held_at, use_of, state_of, start_entry, entry_at, entries_from, table_of, Marked, Cleared, Changed}

-- ---- the table, block by block

module _ (t : List ℕ) (base : ℕ) where
  from-length : (i n : ℕ) → length (entries_from t base i n) ≡ n
  unfolding entries_from
  from-length i zero = refl
  from-length i (suc n) = ap suc (from-length (suc i) n)

  from-entry : (i n k : ℕ) → k < n → get_or (entries_from t base i n) k free_entry ≡ entry_at t base (i + k)
  unfolding entries_from
  from-entry i zero k h = absurd (omega arith)
  from-entry i (suc n) zero h = rw (add-zero i)
  from-entry i (suc n) (suc k) h = from-entry (suc i) n k (le_of_suc-le-suc h) ∙ ap (entry_at t base) (suc-add i k ∙ sym (add-suc i k))

  pub table-length : length (table_of t base) ≡ 256
  unfolding table_of
  table-length = from-length 0 256

  pub table-entry : (i : ℕ) → i < 256 → entry (table_of t base) i ≡ entry_at t base i
  unfolding table_of
  table-entry i h = from-entry 0 256 i h ∙ (let p : 0 + i ≡ i = omega arith in ap (entry_at t base) p)

  -- a table is known by its entries
  by_entries : (l : List Entry) → length l ≡ 256 → ((i : ℕ) → i < 256 → entry_at t base i ≡ entry l i) → table_of t base ≡ l
  by_entries l h f = ext_get_or free_entry (table_of t base) l (table-length ∙ sym h) (λ i k. let m : i < 256 = omega (arith, table-length) in table-entry i m ∙ f i m)

-- ---- a block is free by its bit alone

no_start_is_free : (a b c d : Bool) → is_use Free (pick a Reserved (pick b SentData (pick c SentBinding (pick d ReceivedData StoredBinding)))) ≡ false
no_start_is_free true b c d = refl
no_start_is_free false true c d = refl
no_start_is_free false false true d = refl
no_start_is_free false false false true = refl
no_start_is_free false false false false = refl

start-held : (t : List ℕ) (base i : ℕ) → is_use Free (start_entry t base i).usage ≡ false
unfolding start_entry
start-held t base i = go (eqb (get_or t (base + 32 + i) 0) 0) _ _ _ (use_of (get_or t (base + 32 + i) 0)) (no_start_is_free (eqb (get_or t (base + 32 + i) 0) 1) (eqb (get_or t (base + 32 + i) 0) 2) (eqb (get_or t (base + 32 + i) 0) 3) (eqb (get_or t (base + 32 + i) 0) 4))
  where
    go : (b : Bool) (n a k : ℕ) (u : Use) → is_use Free u ≡ false → is_use Free (pick b inside_entry (run_entry u n a k)).usage ≡ false
    go true n a k u h = refl
    go false n a k u h = h

pub free-is : (t : List ℕ) (base i : ℕ) → i < 256 → in_use Free (table_of t base) i ≡ not (held_at t base i)
unfolding entry_at
free-is t base i h = rw (table-entry t base i h) (go (held_at t base i))
  where
    go : (b : Bool) → is_use Free (pick b (start_entry t base i) free_entry).usage ≡ not b
    go true = start-held t base i
    go false = refl

pub held-free : (t : List ℕ) (base i : ℕ) (b : Bool) → i < 256 → held_at t base i ≡ b → in_use Free (table_of t base) i ≡ not b
held-free t base i b h e = free-is t base i h ∙ ap not e

-- by the bits that a search keeps, block i's the lowest
module _ (t : List ℕ) (base i bits : ℕ) (l : i < 256) (h : bits ≡ bits_at t base i) where
  pub even_free : bits % 2 ≡ 0 → in_use Free (table_of t base) i ≡ true
  even_free e = held-free t base i false l (held_odd t base i bits h ∙ ne_eqb (bits % 2) 1 (omega arith))

  pub odd_held : bits % 2 ≡ 1 → in_use Free (table_of t base) i ≡ false
  odd_held e = held-free t base i true l (held_odd t base i bits h ∙ eq-eqb (bits % 2) 1 e)

-- ---- fresh tables: all free

pub fresh-table : (base : ℕ) → base + 1568 ≤ 3136 → table_of (replicate 3136 0) base ≡ replicate 256 free_entry
unfolding entry_at held_at
fresh-table base h =
    by_entries (replicate 3136 0) base (replicate 256 free_entry) (length-replicate 256 free_entry) (λ i l. rw (get_or-replicate {A = ℕ} 3136 (base + i / 8) 0 0 (omega arith), zero-div (2 ^ (i % 8))) (sym (fresh-entry 256 i)))

-- ---- a run freed: its bits are cleared, and no byte of a start is touched

start-same : (t t' : List ℕ) (base i : ℕ) → ((c : ℕ) → get_or t' (base + (32 + 256 * c) + i) 0 ≡ get_or t (base + (32 + 256 * c) + i) 0) → start_entry t' base i ≡ start_entry t base i
unfolding start_entry
start-same t t' base i h = rw (h 0, h 1, h 2, h 3, h 4, h 5)

module _ (t t' : List ℕ) (base i : ℕ) where
  entry-same : held_at t' base i ≡ held_at t base i → start_entry t' base i ≡ start_entry t base i → entry_at t' base i ≡ entry_at t base i
  unfolding entry_at
  entry-same h k = rw (h, k)

-- what another table stands for, where none of its bytes has changed
pub unchanged : (t t' : List ℕ) (b : ℕ) → ((p : ℕ) → b ≤ p → p < b + 1568 → get_or t' p 0 ≡ get_or t p 0) → table_of t' b ≡ table_of t b
unfolding held_at start_entry
unchanged t t' b h = by_entries t' b (table_of t b) (table-length t b) (λ i l. entry-same t t' b i (held i l) (started-there i l) ∙ sym (table-entry t b i l))
  where
    held : (i : ℕ) → i < 256 → held_at t' b i ≡ held_at t b i
    held i l = ap (λ (x : ℕ). bit_of x (i % 8)) (h (b + i / 8) (omega arith) (omega arith))

    started-there : (i : ℕ) → i < 256 → start_entry t' b i ≡ start_entry t b i
    started-there i l =
        rw (h (b + 32 + i) (omega arith) (omega arith), h (b + 288 + i) (omega arith) (omega arith), h (b + 544 + i) (omega arith) (omega arith), h (b + 800 + i) (omega arith) (omega arith), h (b + 1056 + i) (omega arith) (omega arith), h (b + 1312 + i) (omega arith) (omega arith))

pub freed-table : (t t' : List ℕ) (base s n : ℕ) → s + n ≤ 256 → Marked false base s (s + n) t t' → table_of t' base ≡ freed (table_of t base) s n
unfolding entry_at
freed-table t t' base s n h m = by_entries t' base (freed (table_of t base) s n) (length-fill (table_of t base) s n free_entry ∙ table-length t base) at
  where
    same : (i : ℕ) → i < 256 → held_at t' base i ≡ held_at t base i → entry_at t' base i ≡ entry (table_of t base) i
    same i l k = entry-same t t' base i k (start-same t t' base i (λ c. m.upper (base + (32 + 256 * c) + i) (omega arith))) ∙ sym (table-entry t base i l)

    gone : (i : ℕ) → s ≤ i → i < s + n → entry_at t' base i ≡ entry (freed (table_of t base) s n) i
    gone i a b = rw (m.inside i a b) (sym (fill_in (table_of t base) s n free_entry i a b (omega (arith, table-length t base))))

    at : (i : ℕ) → i < 256 → entry_at t' base i ≡ entry (freed (table_of t base) s n) i
    at i l = go (relation s n i) l
      where
        go : {j : ℕ} → Relation s n j → j < 256 → entry_at t' base j ≡ entry (freed (table_of t base) s n) j
        go {j} (below a) l = same j l (m.below j a) ∙ sym (fill-below (table_of t base) s n free_entry j a)
        go first l = edge (ltb s (s + n)) refl
          where
            edge : (b : Bool) → ltb s (s + n) ≡ b → entry_at t' base s ≡ entry (freed (table_of t base) s n) s
            edge true e = gone s (omega arith) (ltb-true s (s + n) e)
            edge false e = let k = ltb-false s (s + n) e in same s l (m.above s k) ∙ sym (fill-above (table_of t base) s n free_entry s k)
        go {j} (later a b) l = gone j (omega arith) b
        go {j} (above a b) l = same j l (m.above j b) ∙ sym (fill-above (table_of t base) s n free_entry j b)

pub freed-changed : (t t' : List ℕ) (base s n : ℕ) → s + n ≤ 256 → length t ≡ 3136 → Marked false base s (s + n) t t' → Changed t t' base (freed (table_of t base) s n)
freed-changed t t' base s n h long m =
    record {
      long = m.long ∙ long;
      table = freed-table t t' base s n h m;
      lower = λ b l. unchanged t t' b (λ p x y. m.lower p (omega arith));
      upper = λ b l. unchanged t t' b (λ p x y. m.upper p (omega arith));
    }

-- ---- a run taken: its bits are set, its states cleared, and its start's bytes stored

abbrev pub stored : List ℕ → ℕ → ℕ → ℕ → ℕ → ℕ → ℕ → ℕ → ℕ → List ℕ
stored t base s a b c d e f = set (set (set (set (set (set t (base + 32 + s) a) (base + 288 + s) b) (base + 544 + s) c) (base + 800 + s) d) (base + 1056 + s) e) (base + 1312 + s) f

module _ (t : List ℕ) (base s a b c d e f : ℕ) where
  abbrev t0 : List ℕ
  t0 = set t (base + 32 + s) a

  abbrev t1 : List ℕ
  t1 = set t0 (base + 288 + s) b

  abbrev t2 : List ℕ
  t2 = set t1 (base + 544 + s) c

  abbrev t3 : List ℕ
  t3 = set t2 (base + 800 + s) d

  abbrev t4 : List ℕ
  t4 = set t3 (base + 1056 + s) e

  -- of the sixth, fifth, .. of the bytes: what stands at p, which is another
  not5 : (p : ℕ) → (p ≡ base + 1312 + s → ⊥) → get_or (stored t base s a b c d e f) p 0 ≡ get_or t4 p 0
  not5 p h = get_or-set_other t4 (base + 1312 + s) p f 0 h

  not4 : (p : ℕ) → (p ≡ base + 1056 + s → ⊥) → get_or t4 p 0 ≡ get_or t3 p 0
  not4 p h = get_or-set_other t3 (base + 1056 + s) p e 0 h

  not3 : (p : ℕ) → (p ≡ base + 800 + s → ⊥) → get_or t3 p 0 ≡ get_or t2 p 0
  not3 p h = get_or-set_other t2 (base + 800 + s) p d 0 h

  not2 : (p : ℕ) → (p ≡ base + 544 + s → ⊥) → get_or t2 p 0 ≡ get_or t1 p 0
  not2 p h = get_or-set_other t1 (base + 544 + s) p c 0 h

  not1 : (p : ℕ) → (p ≡ base + 288 + s → ⊥) → get_or t1 p 0 ≡ get_or t0 p 0
  not1 p h = get_or-set_other t0 (base + 288 + s) p b 0 h

  stored_other : (p : ℕ) → ((k : ℕ) → k ≤ 5 → p ≡ base + (32 + 256 * k) + s → ⊥) → get_or (stored t base s a b c d e f) p 0 ≡ get_or t p 0
  stored_other p h = not5 p (h 5 (omega arith)) ∙ not4 p (h 4 (omega arith)) ∙ not3 p (h 3 (omega arith)) ∙ not2 p (h 2 (omega arith)) ∙ not1 p (h 1 (omega arith)) ∙ get_or-set_other t (base + 32 + s) p a 0 (h 0 (omega arith))

  module _ (long : length t ≡ 3136) (least : base ≤ 1568) (low : s < 256) where
    byte0 : get_or (stored t base s a b c d e f) (base + 32 + s) 0 ≡ a
    byte0 = let p : ℕ = base + 32 + s in not5 p (omega arith) ∙ not4 p (omega arith) ∙ not3 p (omega arith) ∙ not2 p (omega arith) ∙ not1 p (omega arith) ∙ get_or-set_same t p a 0 (omega arith)

    byte1 : get_or (stored t base s a b c d e f) (base + 288 + s) 0 ≡ b
    byte1 = let p : ℕ = base + 288 + s in not5 p (omega arith) ∙ not4 p (omega arith) ∙ not3 p (omega arith) ∙ not2 p (omega arith) ∙ get_or-set_same t0 p b 0 (simp length-set (omega arith))

    byte2 : get_or (stored t base s a b c d e f) (base + 544 + s) 0 ≡ c
    byte2 = let p : ℕ = base + 544 + s in not5 p (omega arith) ∙ not4 p (omega arith) ∙ not3 p (omega arith) ∙ get_or-set_same t1 p c 0 (simp length-set (omega arith))

    byte3 : get_or (stored t base s a b c d e f) (base + 800 + s) 0 ≡ d
    byte3 = let p : ℕ = base + 800 + s in not5 p (omega arith) ∙ not4 p (omega arith) ∙ get_or-set_same t2 p d 0 (simp length-set (omega arith))

    byte4 : get_or (stored t base s a b c d e f) (base + 1056 + s) 0 ≡ e
    byte4 = let p : ℕ = base + 1056 + s in not5 p (omega arith) ∙ get_or-set_same t3 p e 0 (simp length-set (omega arith))

    byte5 : get_or (stored t base s a b c d e f) (base + 1312 + s) 0 ≡ f
    byte5 = get_or-set_same t4 (base + 1312 + s) f 0 (simp length-set (omega arith))

-- the bytes of a length below 2 ^ 24
pub three_bytes : (k : ℕ) (bs : List ℕ) → k < 2 ^ 24 → bs ≡ to_le_bytes w32 k → (get_or bs 0 0 ≡ k % 256) × (get_or bs 1 0 ≡ k / 256 % 256) × (get_or bs 2 0 ≡ k / 65536)
three_bytes k bs h e = (rw e (omega arith), rw e (omega arith), rw e (omega arith))

-- the bytes of a run's start
abbrev pub started : List ℕ → ℕ → Use → ℕ → ℕ → ℕ → ℕ → List ℕ
started t base u s n a k = stored t base s (state_of u) a (n - 1) (k % 256) (k / 256 % 256) (k / 65536)

started_says : (t : List ℕ) (base : ℕ) (u : Use) (s n a k : ℕ) → length t ≡ 3136 → base ≤ 1568 → s < 256 → 1 ≤ n → block_kind u ≡ leading → start_entry (started t base u s n a k) base s ≡ run_entry u n a k
unfolding start_entry
started_says t base u s n a k long least low one lead =
    let c : n - 1 + 1 ≡ n = omega arith in
    let l : k % 256 + 256 * (k / 256 % 256) + 65536 * (k / 65536) ≡ k = omega arith in
    rw (byte0 t base s (state_of u) a (n - 1) (k % 256) (k / 256 % 256) (k / 65536) long least low, byte1 t base s (state_of u) a (n - 1) (k % 256) (k / 256 % 256) (k / 65536) long least low, byte2 t base s (state_of u) a (n - 1) (k % 256) (k / 256 % 256) (k / 65536) long least low, byte3 t base s (state_of u) a (n - 1) (k % 256) (k / 256 % 256) (k / 65536) long least low, byte4 t base s (state_of u) a (n - 1) (k % 256) (k / 256 % 256) (k / 65536) long least low, byte5 t base s (state_of u) a (n - 1) (k % 256) (k / 256 % 256) (k / 65536) long least low, c, l)
    (named u lead)
  where
    named : (u : Use) → block_kind u ≡ leading → pick (eqb (state_of u) 0) inside_entry (run_entry (use_of (state_of u)) n a k) ≡ run_entry u n a k
    named Free h = absurd (clash h refl refl)
    named Inside h = absurd (clash h refl refl)
    named Reserved h = refl
    named SentData h = refl
    named SentBinding h = refl
    named ReceivedData h = refl
    named StoredBinding h = refl

module _ (t t₁ t₂ : List ℕ) (base : ℕ) (u : Use) (s n a k : ℕ) (one : 1 ≤ n) (fits : s + n ≤ 256) (lead : block_kind u ≡ leading) (long : length t₂ ≡ 3136) (least : base ≤ 1568)
    (m : Marked true base s (s + n) t t₁) (q : Cleared (base + 32 + s + 1) (base + 32 + s + 1 + (n - 1)) t₁ t₂) where
  other : (p : ℕ) → ((c : ℕ) → c ≤ 5 → p ≡ base + (32 + 256 * c) + s → ⊥) → get_or (started t₂ base u s n a k) p 0 ≡ get_or t₂ p 0
  other p h = stored_other t₂ base s (state_of u) a (n - 1) (k % 256) (k / 256 % 256) (k / 65536) p h

  held_same : (i : ℕ) → i < 256 → held_at (started t₂ base u s n a k) base i ≡ held_at t₁ base i
  unfolding held_at
  held_same i l = ap (λ (b : ℕ). bit_of b (i % 8)) (other (base + i / 8) (λ c f e. omega arith) ∙ q.below (base + i / 8) (omega arith))

  outside : (i : ℕ) → i < 256 → (i < s) ⊎ (s + n ≤ i) → held_at t₁ base i ≡ held_at t base i → entry_at (started t₂ base u s n a k) base i ≡ entry_at t base i
  outside i l o h = entry-same t (started t₂ base u s n a k) base i (held_same i l ∙ h) (start-same t (started t₂ base u s n a k) base i (λ c. go o c))
    where
      go : (i < s) ⊎ (s + n ≤ i) → (c : ℕ) → get_or (started t₂ base u s n a k) (base + (32 + 256 * c) + i) 0 ≡ get_or t (base + (32 + 256 * c) + i) 0
      go (inl o) zero = other (base + (32 + 256 * 0) + i) (λ c f e. omega arith) ∙ q.below (base + (32 + 256 * 0) + i) (omega arith) ∙ m.upper (base + (32 + 256 * 0) + i) (omega arith)
      go (inl o) (suc c) = other (base + (32 + 256 * suc c) + i) (λ d f e. omega arith) ∙ q.above (base + (32 + 256 * suc c) + i) (omega arith) ∙ m.upper (base + (32 + 256 * suc c) + i) (omega arith)
      go (inr o) c = other (base + (32 + 256 * c) + i) (λ d f e. omega arith) ∙ q.above (base + (32 + 256 * c) + i) (omega arith) ∙ m.upper (base + (32 + 256 * c) + i) (omega arith)

  start-there : entry_at (started t₂ base u s n a k) base s ≡ run_entry u n a k
  unfolding entry_at
  start-there = rw (held_same s (omega arith) ∙ m.inside s (omega arith) (omega arith)) (started_says t₂ base u s n a k long least (omega arith) one lead)

  rest-there : (i : ℕ) → s < i → i < s + n → entry_at (started t₂ base u s n a k) base i ≡ inside_entry
  unfolding entry_at start_entry
  rest-there i a b =
      rw (held_same i (omega arith) ∙ m.inside i (omega arith) b, other (base + 32 + i) (λ c f e. omega arith) ∙ q.inside (base + 32 + i) (omega arith) (omega arith))

  pub taken-table : table_of (started t₂ base u s n a k) base ≡ taken (table_of t base) u s n a k
  taken-table =
      by_entries (started t₂ base u s n a k) base (taken (table_of t base) u s n a k) (length-set (fill (table_of t base) s n inside_entry) s x ∙ length-fill (table_of t base) s n inside_entry ∙ table-length t base) (λ i l. at (relation s n i) l)
    where
      x : Entry
      x = run_entry u n a k

      not_first : (j : ℕ) → (j ≡ s → ⊥) → entry (taken (table_of t base) u s n a k) j ≡ entry (fill (table_of t base) s n inside_entry) j
      not_first j h = get_or-set_other (fill (table_of t base) s n inside_entry) s j x free_entry h

      at : {j : ℕ} → Relation s n j → j < 256 → entry_at (started t₂ base u s n a k) base j ≡ entry (taken (table_of t base) u s n a k) j
      at {j} (below h) l = outside j l (inl h) (m.below j h) ∙ sym (not_first j (omega arith) ∙ fill-below (table_of t base) s n inside_entry j h ∙ table-entry t base j l)
      at first l = start-there ∙ sym (get_or-set_same (fill (table_of t base) s n inside_entry) s x free_entry (omega (arith, length-fill (table_of t base) s n inside_entry, table-length t base)))
      at {j} (later h h') l = rest-there j h h' ∙ sym (not_first j (omega arith) ∙ fill_in (table_of t base) s n inside_entry j (omega arith) h' (omega (arith, table-length t base)))
      at {j} (above h h') l = outside j l (inr h') (m.above j h') ∙ sym (not_first j (omega arith) ∙ fill-above (table_of t base) s n inside_entry j h' ∙ table-entry t base j l)

  -- a byte of another table
  away : (p : ℕ) → (p < base) ⊎ (base + 1568 ≤ p) → get_or (started t₂ base u s n a k) p 0 ≡ get_or t p 0
  away p (inl l) = other p (λ c f e. omega arith) ∙ q.below p (omega arith) ∙ m.lower p l
  away p (inr l) = other p (λ c f e. omega (arith, e)) ∙ q.above p (omega arith) ∙ m.upper p (omega arith)

  pub taken-changed : Changed t (started t₂ base u s n a k) base (taken (table_of t base) u s n a k)
  taken-changed =
      record {
        long = simp length-set long;
        table = taken-table;
        lower = λ b l. unchanged t (started t₂ base u s n a k) b (λ p x y. away p (inl (omega arith)));
        upper = λ b l. unchanged t (started t₂ base u s n a k) b (λ p x y. away p (inr (omega arith)));
      }
