-- What the number of a search is, by the facts that the code has.
use Prim.Native.Nat.{ℕ, ◌+◌, ◌*◌, ◌≤◌, ◌<◌}
use mathlib.Core.Path.{◌≡◌, sym, ◌∙◌}
use mathlib.Core.List.{List}
use native.Mathlib.Nat.{zero-add}
use native.Mathlib.Numerals.{add-one}
use lib.ListN.{length}
use borrow.Author.Tests.{eq-eqb, ne_eqb, le-leb, lt-leb}
use Rattle.std.specs.Prelude.{Option, Some, None}
use Rattle.blocks.specs.Search.{Search, nowhere, found_at}
use Rattle.blocks.specs.Tables.{search_of}
use Rattle.blocks.specs.OnePass.{OnePass}
use Rattle.tables.specs.Compact.{table_of}
use Rattle.search.specs.Told.{start_number, search_number}

module _ (s : List ℕ) (c n : ℕ) where
  pub other_bytes : (length s ≡ 3136 → ⊥) → 0 ≡ search_number s c n
  unfolding search_number
  other_bytes h = rw (ne_eqb (length s) 3136 h)

  pub too_many : length s ≡ 3136 → 256 < c → 0 ≡ search_number s c n
  unfolding search_number
  too_many l h = rw (eq-eqb (length s) 3136 l, lt-leb c 256 h)

  pub none_asked : length s ≡ 3136 → c ≤ 256 → n ≡ 0 → 0 ≡ search_number s c n
  unfolding search_number
  none_asked l m h = rw (eq-eqb (length s) 3136 l, le-leb c 256 m, h)

  module _ (l : length s ≡ 3136) (m : c ≤ 256) (o : 1 ≤ n) where
    tells : (found : Search) (k : ℕ) → OnePass c (table_of s 0) n found k → 65536 * start_number found + k ≡ search_number s c n
    unfolding search_number
    tells found k h = rw (eq-eqb (length s) 3136 l, le-leb c 256 m, le-leb 1 n o) (rw (← h.lowest, ← h.ends))

    pub tells_nowhere : (r : Option ℕ) (k : ℕ) → OnePass c (table_of s 0) n (search_of r) k → r ≡ None → k ≡ search_number s c n
    tells_nowhere r k h e = sym (zero-add k) ∙ tells nowhere k (rw e at h)

    pub tells_start : (r : Option ℕ) (k i : ℕ) → OnePass c (table_of s 0) n (search_of r) k → r ≡ Some i → 65536 * (i + 1) + k ≡ search_number s c n
    tells_start r k i h e = simp add-one (tells (found_at i) k (rw e at h))
