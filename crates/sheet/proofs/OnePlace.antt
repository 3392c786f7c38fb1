-- In a well-formed sheet a path leads to one place, and a path of groups to a list.
use Prim.Native.Nat.{ℕ, zero, suc, ◌+◌, ◌-◌, ◌≤◌}
use mathlib.Core.Bool.{Bool, true, false, ◌&&◌, ◌||◌, not, false≢true}
use mathlib.Core.List.{List, [], ◌∷◌, ◌++◌}
use mathlib.Core.Path.{◌≡◌, refl, sym, subst, ◌∙◌}
use native.Mathlib.Nat.{sub-zero}
use native.Mathlib.Omega.{arith}
use lib.Dec.{eqb}
use lib.ListN.{length}
use borrow.Author.Tests.{not-true, eq-eqb}
use Rattle.wire.specs.Choice.{pick}
use Rattle.wire.proofs.Choices.{both}
use Rattle.sheet.specs.Sheets.{Part, nowhere, part, is_group, has, is_field, are_fields, is_list, find, onward, lead, place_of, through_groups}
use Rattle.sheet.specs.Laws.{Framed, are_whole, Leads, OnePlace, all_groups, GroupsAreLists}
use Rattle.sheet.proofs.Steps.{fields_of, find_of, sheet_says}
use Rattle.sheet.proofs.Places.{nowhere≢part, find-found, lead-leads}

-- ---- a field of a list of fields

-- the bytes of a list, from those before a field to those behind it
abbrev around : List ℕ → ℕ → List ℕ → List ℕ → List ℕ
around before t v after = before ++ t ∷ length v ∷ v ++ after

-- its tag is new, its value is an inner list if it is a group, and a search for its tag finds it
record Only (g : List ℕ → Bool) (tags : List ℕ) (t a n : ℕ) (before v after : List ℕ) : Type 0 where
  is_new : has tags t ≡ false
  inner : is_group t ≡ true → g v ≡ true
  is_found : find t a n (around before t v after) ≡ part (a + length before + 2) v

only_here : (g : List ℕ → Bool) (tags : List ℕ) (t a : ℕ) (v after : List ℕ) → are_fields g tags 0 (around [] t v after) ≡ true → Only g tags t a 0 [] v after
only_here g tags t a v after h =
    let x = both (not (has tags t)) (pick (is_group t) (g v) true && are_fields g (t ∷ tags) 0 after) (sym (fields_of t v after g tags) ∙ h) in
    let y = both (pick (is_group t) (g v) true) (are_fields g (t ∷ tags) 0 after) x.1 in
    let z : a + 0 + 2 ≡ a + 2 = omega arith in
    record {
      is_new = not-true (has tags t) x.0;
      inner = λ e. rw e at y.0;
      is_found = find_of t v after t a ∙ rw (eq-eqb t t refl, z);
    }

field_only : (g : List ℕ → Bool) (tags : List ℕ) (t a n : ℕ) (before v after : List ℕ) → are_whole n before ≡ true →
    are_fields g tags n (around before t v after) ≡ true → Only g tags t a n before v after
unfolding are_whole are_fields find has
field_only g tags t a (suc n) [] v after w h = absurd (false≢true w)
field_only g tags t a (suc n) (x ∷ before) v after w h =
    let z : a + 1 + length before + 2 ≡ a + suc (length before) + 2 = omega arith in
    let o = field_only g tags t (a + 1) n before v after w h in
    record { is_new = o.is_new; inner = o.inner; is_found = o.is_found ∙ rw z }
field_only g tags t a zero [] v after w h = only_here g tags t a v after h
field_only g tags t a zero (u ∷ []) v after w h = absurd (false≢true w)
field_only g tags t a zero (u ∷ m ∷ before) v after w h =
    let rest = around before t v after in
    let x = both (not (has tags u)) (is_field g u m rest && are_fields g (u ∷ tags) m rest) h in
    let o = field_only g (u ∷ tags) t (a + 2) m before v after w (both (is_field g u m rest) (are_fields g (u ∷ tags) m rest) x.1).1 in
    let y = neither (eqb u t) (has tags t) o.is_new in
    let z : a + 2 + length before + 2 ≡ a + suc (suc (length before)) + 2 = omega arith in
    record { is_new = y.1; inner = o.inner; is_found = rw y.0 (o.is_found ∙ rw z) }
  where
    neither : (x y : Bool) → (x || y) ≡ false → (x ≡ false) × (y ≡ false)
    neither false y e = (refl, e)
    neither true y e = absurd (false≢true (sym e))

-- ---- a field of a list

list_deep : (d : ℕ) (s : List ℕ) → is_list d s ≡ true → 1 ≤ d
unfolding is_list
list_deep zero s l = absurd (false≢true l)
list_deep (suc d) s l = omega arith

-- whichever field of a list has the tag, a search finds it, and if it is a group it is a list, one deeper
record Alone (d t a : ℕ) (s : List ℕ) (b : ℕ) (v : List ℕ) : Type 0 where
  is_found : find t a 0 s ≡ part b v
  inner : is_group t ≡ true → is_list (d - 1) v ≡ true

alone : (d t a : ℕ) (s : List ℕ) (b : ℕ) (v : List ℕ) → is_list d s ≡ true → (f : Framed t a s b v) → are_whole 0 f.before ≡ true → Alone d t a s b v
unfolding is_list
alone zero t a s b v l f w = absurd (false≢true l)
alone (suc d) t a s b v l f w =
    let z : suc d - 1 ≡ d = omega arith in
    let o = field_only (is_list d) [] t a 0 f.before v f.after w (subst (λ (x : List ℕ). are_fields (is_list d) [] 0 x ≡ true) f.bytes l) in
    record {
      is_found = rw (f.bytes, f.begin) o.is_found;
      inner = λ h. rw z (o.inner h);
    }

-- ---- a path

leads-only : (d : ℕ) (path : List ℕ) (a : ℕ) (s : List ℕ) (b : ℕ) (v : List ℕ) → is_list d s ≡ true → through_groups path ≡ true →
    Leads path a s b v → lead path a s ≡ part b v
unfolding lead through_groups
leads-only d [] a s b v i g l = rw (l.0, l.1)
leads-only d (t ∷ []) a s b v i g l =
    let x = alone d t a s l.begin l.bytes i l.frame l.whole in
    rw (x.is_found, l.rest.0, l.rest.1)
leads-only d (t ∷ u ∷ us) a s b v i g l =
    let x = alone d t a s l.begin l.bytes i l.frame l.whole in
    let y = both (is_group t) (through_groups (u ∷ us)) g in
    rw x.is_found (leads-only (d - 1) (u ∷ us) l.begin l.bytes b v (x.inner y.0) y.1 l.rest)

pub one_place : OnePlace
unfolding place_of
one_place =
    record {
      leads = λ s path b v f. lead-leads path 0 s b v f;
      only = λ s path b v h g l. leads-only 5 path 0 s b v (sheet_says s h).1 g l;
    }

lead_groups : (d : ℕ) (path : List ℕ) (a : ℕ) (s : List ℕ) (b : ℕ) (v : List ℕ) → is_list d s ≡ true → all_groups path ≡ true → lead path a s ≡ part b v →
    (length path + 1 ≤ d) × (is_list (d - length path) v ≡ true)
unfolding all_groups lead
lead_groups d [] a s b v l g f =
    let ev : s ≡ v = cc in
    (omega (arith, list_deep d s l), rw (sub-zero d, ← ev) l)
lead_groups d (t ∷ ts) a s b v l g f = go (find t a 0 s) refl f (λ c w. lead_groups (d - 1) ts c w b v)
  where
    go : (r : Part) → find t a 0 s ≡ r → onward r (lead ts) ≡ part b v →
        ((c : ℕ) (w : List ℕ) → is_list (d - 1) w ≡ true → all_groups ts ≡ true → lead ts c w ≡ part b v → (length ts + 1 ≤ d - 1) × (is_list (d - 1 - length ts) v ≡ true)) →
        (suc (length ts) + 1 ≤ d) × (is_list (d - suc (length ts)) v ≡ true)
    go nowhere e q rest = absurd (nowhere≢part q)
    go (part c w) e q rest =
        let f = find-found t a 0 s c w e in
        let y = both (is_group t) (all_groups ts) g in
        let x = rest c w ((alone d t a s c w l f.frame f.whole).inner y.0) y.1 q in
        let z : d - suc (length ts) ≡ d - 1 - length ts = omega arith in
        (omega (arith, x.0), rw z x.1)

pub groups_are_lists : GroupsAreLists
unfolding place_of
groups_are_lists s path b v h g f =
    let x = lead_groups 5 path 0 s b v (sheet_says s h).1 g f in
    (omega (arith, x.0), x.1)
