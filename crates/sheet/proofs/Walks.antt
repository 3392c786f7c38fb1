-- The walk of a list, and the search in one, as the code makes them: from position p to e of a sheet s.
use Prim.Native.Nat.{ℕ, zero, suc, ◌+◌, ◌-◌, ◌/◌, ◌%◌, ◌≤◌, ◌<◌}
use mathlib.Core.Bool.{Bool, true, false, ◌&&◌, not}
use mathlib.Core.List.{List, [], ◌∷◌}
use mathlib.Core.Path.{◌≡◌, refl, sym, ◌∙◌}
use native.Mathlib.Omega.{arith}
use lib.Dec.{eqb}
use lib.ListN.{length, get_or, set}
use lib.Seq.{slice, length-slice, length-take-le}
use borrow.Author.Tests.{not-true, not-false, le-leb, lt-leb, eqb-true, eqb-false, eq-eqb, ne_eqb}
use Rattle.wire.specs.Choice.{pick}
use Rattle.wire.proofs.Choices.{and_false}
use Rattle.sheet.specs.Sheets.{has, is_field, are_fields, is_list, nowhere, find}
use Rattle.sheet.specs.Picks.{place_in}
use Rattle.sheet.specs.declared.Span.{Span}
use Rattle.std.specs.Prelude.{Option, Some}
use Rattle.sheet.specs.Tags.{with_bit}
use Rattle.sheet.proofs.Tags.{in_set, Holds, holds_more}
use Rattle.sheet.proofs.Steps.{tag_at, size_at, field_ends, fields_step, skip_find, skip_past, slice_front, slice_rest, slice_none, slice_one, slice_field}

-- what a test of `not r` says of x, which r is
pub was_true : (r x : Bool) → r ≡ x → not r ≡ false → x ≡ true
was_true r x e h = sym e ∙ not-false r h

pub was_false : (r x : Bool) → r ≡ x → not r ≡ true → x ≡ false
was_false r x e h = sym e ∙ not-true r h

-- n bytes at b, as the code has them
abbrev pub at : ℕ → ℕ → Option Span
at b n = Some (record { begin = b; size = n })

-- ---- a list

pub list_none : (d : ℕ) (s : List ℕ) → d ≡ 0 → is_list d s ≡ false
unfolding is_list
list_none d s h = rw h

list_of : (d : ℕ) (s : List ℕ) → 1 ≤ d → are_fields (is_list (d - 1)) [] 0 s ≡ is_list d s
unfolding is_list
list_of zero s h = absurd (omega arith)
list_of (suc d) s h =
    let z : suc d - 1 ≡ d = omega arith in
    rw z

-- how far the walk of a list that begins at `from` has come, with the tags that it has seen
pub record Walked (s : List ℕ) (d from e : ℕ) (seen : List ℕ) (p : ℕ) : Type 0 where
  pub tags : List ℕ
  pub begun : from ≤ p
  pub inside : p ≤ e
  pub holds : Holds seen tags
  pub rest : are_fields (is_list (d - 1)) tags 0 (slice p e s) ≡ is_list d (slice from e s)

pub walk_begins : (s : List ℕ) (d from e : ℕ) (seen : List ℕ) → 1 ≤ d → from ≤ e → Holds seen [] → Walked s d from e seen from
walk_begins s d from e seen hd h holds = record { tags = []; begun = omega arith; inside = h; holds = holds; rest = list_of d (slice from e s) hd }

pub walked_all : {s : List ℕ} {d from e : ℕ} {seen : List ℕ} {p : ℕ} → Walked s d from e seen p → e ≤ p → is_list d (slice from e s) ≡ true
unfolding are_fields
walked_all {s} {d} {from} {e} {seen} {p} w h = sym w.rest ∙ rw (slice_none p e s (omega (arith, w.inside)))

-- the field at p: the code has read its tag t and its size n
module _ {s : List ℕ} {d from e : ℕ} {seen : List ℕ} {p : ℕ} (w : Walked s d from e seen p) (k : e ≤ length s) where
  pub walked_odd : p < e → e - p < 2 → is_list d (slice from e s) ≡ false
  unfolding are_fields
  walked_odd l h = sym w.rest ∙ rw (slice_one s p e k (omega arith))

  module _ (h : p + 2 ≤ e) (t n : ℕ) (et : t ≡ tag_at s p) (en : n ≡ size_at s p) (ht : t < 256) where
    rest-step : is_list d (slice from e s)
        ≡ (not (has w.tags t) && (is_field (is_list (d - 1)) t n (slice (p + 2) e s) && are_fields (is_list (d - 1)) (t ∷ w.tags) 0 (slice (p + 2 + n) e s)))
    rest-step =
        sym w.rest
        ∙ rw (slice_field s p e k h, ← et, ← en)
        (fields_step (is_list (d - 1)) w.tags t n (slice (p + 2) e s)
        ∙ rw (slice_rest n (p + 2) e s))

    tag_seen : (q b : Bool) → q ≡ in_set seen t → q ≡ b → has w.tags t ≡ b
    tag_seen q b eq h = sym (w.holds.same t ht) ∙ sym eq ∙ h

    pub walked_again : (q : Bool) → q ≡ in_set seen t → q ≡ true → is_list d (slice from e s) ≡ false
    walked_again q eq hq = rest-step ∙ rw (tag_seen q true eq hq)

    module _ (r : Bool) (er : r ≡ is_field (is_list (d - 1)) t n (slice (p + 2) e s)) where
      pub walked_broken : not r ≡ true → is_list d (slice from e s) ≡ false
      walked_broken hr = rest-step ∙ rw (was_false r _ er hr) (and_false (not (has w.tags t)))

      pub walked_inside : not r ≡ false → p + 2 + n ≤ e
      walked_inside hr =
          omega (arith, field_ends (is_list (d - 1)) t n (slice (p + 2) e s) (was_true r _ er hr), length-slice (p + 2) e s k)

      pub walked_on : (q : Bool) → q ≡ in_set seen t → q ≡ false → (more : ℕ) → more ≡ with_bit (get_or seen (t / 64) 0) (t % 64) →
          not r ≡ false → Walked s d from e (set seen (t / 64) more) (p + 2 + n)
      walked_on q eq hq more em hr =
          record {
            tags = t ∷ w.tags;
            begun = omega (arith, w.begun);
            inside = walked_inside hr;
            holds = rw em (holds_more seen w.tags t ht w.holds);
            rest = rw (tag_seen q false eq hq, was_true r _ er hr) at (sym rest-step);
          }

-- ---- a field

module _ (g : List ℕ → Bool) (s : List ℕ) (t n b e : ℕ) (k : e ≤ length s) where
  pub field_past : e - b < n → is_field g t n (slice b e s) ≡ false
  unfolding is_field
  field_past h = rw (lt-leb n (length (slice b e s)) (omega (arith, length-slice b e s k)))

  module _ (h : n ≤ e - b) where
    pub field_leaf : t < 128 → is_field g t n (slice b e s) ≡ true
    unfolding is_field
    field_leaf l = rw (le-leb n (length (slice b e s)) (omega (arith, length-slice b e s k)), lt-leb 128 t l)

    pub field_group : 128 ≤ t → b + n ≤ e → is_field g t n (slice b e s) ≡ g (slice b (b + n) s)
    unfolding is_field
    field_group l i =
        rw (le-leb n (length (slice b e s)) (omega (arith, length-slice b e s k)), le-leb 128 t l, slice_front n b e s i)

-- ---- a search

pick_same : (b : Bool) → pick b nowhere nowhere ≡ nowhere
pick_same true = refl
pick_same false = refl

module _ (s : List ℕ) (t p e : ℕ) (k : e ≤ length s) where
  pub find_none : p ≤ e → e - p < 2 → find t p 0 (slice p e s) ≡ nowhere
  unfolding find
  find_none l h = go (eqb p e) refl
    where
      go : (b : Bool) → eqb p e ≡ b → find t p 0 (slice p e s) ≡ nowhere
      go true q = rw (slice_none p e s (eqb-true p e q))
      go false q = rw (slice_one s p e k (omega (arith, eqb-false p e q)))

  module _ (h : p + 2 ≤ e) (n : ℕ) (en : n ≡ size_at s p) where
    pub find_past : e - (p + 2) < n → find t p 0 (slice p e s) ≡ nowhere
    unfolding find
    find_past l =
        let i : length (slice (p + 2) e s) < n = omega (arith, length-slice (p + 2) e s k) in
        rw (slice_field s p e k h, ← en, lt-leb n (length (slice (p + 2) e s)) i, skip_past t (p + 2) n (slice (p + 2) e s) i)
        (pick_same (eqb (tag_at s p) t))

    pub find-here : n ≤ e - (p + 2) → tag_at s p ≡ t → place_in (find t p 0 (slice p e s)) ≡ at (p + 2) n
    unfolding find
    find-here l et =
        let i : n ≤ length (slice (p + 2) e s) = omega (arith, length-slice (p + 2) e s k) in
        rw (slice_field s p e k h, ← en, eq-eqb (tag_at s p) t et) (rw (le-leb n (length (slice (p + 2) e s)) i, length-take-le n (slice (p + 2) e s) i))

    pub find-next : n ≤ e - (p + 2) → (tag_at s p ≡ t → ⊥) → find t p 0 (slice p e s) ≡ find t (p + 2 + n) 0 (slice (p + 2 + n) e s)
    unfolding find
    find-next l et =
        rw (slice_field s p e k h, ← en, ne_eqb (tag_at s p) t et)
        (skip_find t (p + 2) n (slice (p + 2) e s) (omega (arith, length-slice (p + 2) e s k)) ∙ rw (slice_rest n (p + 2) e s))
