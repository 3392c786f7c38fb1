-- Lists and searches step by step, first of the bytes themselves, then of the bytes from position p to e of a sheet.
use Prim.Native.Nat.{ℕ, zero, suc, ◌+◌, ◌≤◌, ◌<◌}
use mathlib.Core.Bool.{Bool, true, false, ◌&&◌, not}
use mathlib.Core.List.{List, [], ◌∷◌, ◌++◌}
use mathlib.Core.Path.{◌≡◌, refl, ap, ◌∙◌}
use native.Mathlib.Nat.{add-zero, zero-add, suc-add}
use native.Mathlib.Omega.{arith}
use lib.Dec.{leb, eqb}
use lib.ListN.{length, take, drop, get_or, length-append}
use lib.Seq.{slice, slice_empty, slice-cons, take-take, drop-drop, take-nil, take-append_seam, drop-append_seam}
use borrow.Author.Tests.{leb-true, le-leb}
use Rattle.wire.specs.Choice.{pick}
use Rattle.wire.proofs.Choices.{both}
use Rattle.sheet.specs.Sheets.{is_group, has, is_field, are_fields, is_list, is_sheet, nowhere, part, find}

-- ---- behind the bytes of a value

pub skip_fields : (g : List ℕ → Bool) (tags : List ℕ) (n : ℕ) (s : List ℕ) → n ≤ length s → are_fields g tags n s ≡ are_fields g tags 0 (drop n s)
unfolding are_fields
skip_fields g tags zero s h = refl
skip_fields g tags (suc n) [] h = absurd (omega arith)
skip_fields g tags (suc n) (x ∷ s) h = skip_fields g tags n s (omega arith)

pub skip_find : (t b n : ℕ) (s : List ℕ) → n ≤ length s → find t b n s ≡ find t (b + n) 0 (drop n s)
unfolding find
skip_find t b zero s h = rw (add-zero b)
skip_find t b (suc n) [] h = absurd (omega arith)
skip_find t b (suc n) (x ∷ s) h =
    let z : b + 1 + n ≡ b + suc n = omega arith in
    skip_find t (b + 1) n s (omega arith) ∙ rw z

pub skip_past : (t b n : ℕ) (s : List ℕ) → length s < n → find t b n s ≡ nowhere
unfolding find
skip_past t b zero s h = absurd (omega arith)
skip_past t b (suc n) [] h = refl
skip_past t b (suc n) (x ∷ s) h = skip_past t (b + 1) n s (omega arith)

and_same : (b x y : Bool) → (b ≡ true → x ≡ y) → (b && x) ≡ (b && y)
and_same true x y h = h refl
and_same false x y h = refl

-- what a field in rule says
module _ (g : List ℕ → Bool) (t n : ℕ) (s : List ℕ) (h : is_field g t n s ≡ true) where
  asked : (leb n (length s) ≡ true) × (pick (is_group t) (g (take n s)) true ≡ true)
  unfolding is_field
  asked = both (leb n (length s)) (pick (is_group t) (g (take n s)) true) h

  pub field_ends : n ≤ length s
  field_ends = leb-true n (length s) asked.0

  pub field_inner : is_group t ≡ true → g (take n s) ≡ true
  field_inner e = rw e at asked.1

pub fields_step : (g : List ℕ → Bool) (tags : List ℕ) (t n : ℕ) (s : List ℕ) →
    are_fields g tags 0 (t ∷ n ∷ s) ≡ (not (has tags t) && (is_field g t n s && are_fields g (t ∷ tags) 0 (drop n s)))
unfolding are_fields
fields_step g tags t n s =
    ap (λ (x : Bool). not (has tags t) && x)
    (and_same (is_field g t n s) _ _ (λ h. skip_fields g (t ∷ tags) n s (field_ends g t n s h)))

-- ---- a field with the tag u and the value v, written down before s

module _ (u : ℕ) (v s : List ℕ) where
  ends : length v ≤ length (v ++ s)
  ends = omega (arith, length-append v s)

  pub fields_of : (g : List ℕ → Bool) (tags : List ℕ) →
      are_fields g tags 0 (u ∷ length v ∷ (v ++ s)) ≡ (not (has tags u) && (pick (is_group u) (g v) true && are_fields g (u ∷ tags) 0 s))
  unfolding is_field
  fields_of g tags =
      fields_step g tags u (length v) (v ++ s) ∙ rw (le-leb (length v) (length (v ++ s)) ends, take-append_seam v s, drop-append_seam v s)

  pub find_of : (t b : ℕ) → find t b 0 (u ∷ length v ∷ (v ++ s)) ≡ pick (eqb u t) (part (b + 2) v) (find t (b + 2 + length v) 0 s)
  unfolding find
  find_of t b =
      rw (
        le-leb (length v) (length (v ++ s)) ends,
        take-append_seam v s,
        skip_find t (b + 2) (length v) (v ++ s) ends,
        drop-append_seam v s,
      )

-- ---- a sheet

pub sheet_says : (s : List ℕ) → is_sheet s ≡ true → (length s ≤ 4096) × (is_list 5 s ≡ true)
unfolding is_sheet
sheet_says s h =
    let x = both (leb (length s) 4096) (is_list 5 s) h in
    (leb-true (length s) 4096 x.0, x.1)

-- ---- the bytes from p to e of a sheet s

-- "tag byte, length byte, value": of the field at p
abbrev pub tag_at : List ℕ → ℕ → ℕ
tag_at s p = get_or s p 0

abbrev pub size_at : List ℕ → ℕ → ℕ
size_at s p = get_or s (p + 1) 0

pub slice_front : (n b e : ℕ) (s : List ℕ) → b + n ≤ e → take n (slice b e s) ≡ slice b (b + n) s
slice_front n b e s h = take_behind b n (take e s) ∙ ap (drop b) (take-take (b + n) e s h)
  where
    take_behind : (b n : ℕ) (l : List ℕ) → take n (drop b l) ≡ drop b (take (b + n) l)
    take_behind zero n l = rw (zero-add n)
    take_behind (suc b) n [] = rw (suc-add b n) (take-nil n)
    take_behind (suc b) n (x ∷ l) = rw (suc-add b n) (take_behind b n l)

pub slice_rest : (n b e : ℕ) (s : List ℕ) → drop n (slice b e s) ≡ slice (b + n) e s
slice_rest n b e s = drop-drop n b (take e s)

pub slice_none : (p e : ℕ) (s : List ℕ) → p ≡ e → slice p e s ≡ []
slice_none p e s h = rw h (slice_empty e s)

module _ (s : List ℕ) (p e : ℕ) (k : e ≤ length s) where
  pub slice_one : p + 1 ≡ e → slice p e s ≡ tag_at s p ∷ []
  slice_one h = slice-cons p e s 0 (omega arith) k ∙ ap (λ (l : List ℕ). tag_at s p ∷ l) (slice_none (suc p) e s (omega arith))

  pub slice_field : p + 2 ≤ e → slice p e s ≡ tag_at s p ∷ size_at s p ∷ slice (p + 2) e s
  slice_field h =
      let one : suc p ≡ p + 1 = omega arith in
      let two : suc (p + 1) ≡ p + 2 = omega arith in
      slice-cons p e s 0 (omega arith) k
      ∙ rw (one, ← two) (ap (λ (l : List ℕ). tag_at s p ∷ l) (slice-cons (p + 1) e s 0 (omega arith) k))
