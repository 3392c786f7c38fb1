-- A path step by step, as the code follows it.
use Prim.Native.Nat.{ℕ, zero, suc, ◌+◌, ◌-◌, ◌≤◌, ◌<◌}
use mathlib.Core.Bool.{Bool, ◌&&◌}
use mathlib.Core.List.{List, [], ◌∷◌, ◌++◌, append_assoc}
use mathlib.Core.Path.{◌≡◌, refl, sym, ap, ◌∙◌}
use native.Mathlib.Numerals.{add-one}
use native.Mathlib.Omega.{arith}
use lib.ListN.{length, take, drop, get_or, length-append, drop_of_length-le}
use lib.Seq.{slice, length-slice, drop-cons, take-append_seam, drop-append_seam, take-length}
use Rattle.std.specs.Prelude.{Option, None}
use Rattle.std.specs.List.{list_all}
use Rattle.std.proofs.lemmas.Option.{none-some, same_Some}
use Rattle.sheet.specs.declared.Span.{Span}
use Rattle.sheet.proofs.Walks.{at}
use Rattle.sheet.specs.Sheets.{Part, nowhere, part, is_group, find, onward, lead, place_of, through_groups}
use Rattle.sheet.specs.Picks.{place_in}
use Rattle.sheet.proofs.Steps.{slice_front, slice_rest}
use Rattle.sheet.proofs.Places.{Within, find-within}

pub same_at : {b n c m : ℕ} → at b n ≡ at c m → (b ≡ c) × (n ≡ m)
same_at e =
    let z = same_Some _ _ e in
    (ap (λ (x : Span). x.begin) z, ap (λ (x : Span). x.size) z)

within_slice : (s : List ℕ) (b e c : ℕ) (v : List ℕ) → b ≤ e → e ≤ length s → Within b (slice b e s) c v →
    (c + length v ≤ e) × (slice c (c + length v) s ≡ v)
within_slice s b e c v h k w =
    let l = w.bytes ∙ append_assoc w.before v w.after in
    let i : c + length v ≤ e = omega (
      arith,
      w.begin,
      sym (length-slice b e s k) ∙ ap length l,
      length-append w.before (v ++ w.after),
      length-append v w.after,
    ) in
    let r : slice c e s ≡ v ++ w.after = rw w.begin (sym (slice_rest (length w.before) b e s) ∙ rw l (drop-append_seam w.before (v ++ w.after))) in
    (i, sym (slice_front (length v) c e s i) ∙ rw r (take-append_seam v w.after))

-- how far a path has been followed: to the n bytes at b, by its first i tags
pub record Followed (s path : List ℕ) (b n i : ℕ) : Type 0 where
  pub inside : b + n ≤ length s
  pub tags : i ≤ length path
  pub rest : lead (drop i path) b (slice b (b + n) s) ≡ place_of s path

pub follow_begins : (s path : List ℕ) → Followed s path 0 (length s) 0
unfolding place_of
follow_begins s path =
    let z : 0 + length s ≡ length s = omega arith in
    record { inside = omega arith; tags = omega arith; rest = rw (z, take-length s) }

pub follow_ends : (s path : List ℕ) (b n i : ℕ) → Followed s path b n i → length path ≤ i → place_in (place_of s path) ≡ at b n
unfolding lead
follow_ends s path b n i f h =
    let z : b + n - b ≡ n = omega arith in
    sym (ap place_in f.rest) ∙ rw (drop_of_length-le path h, length-slice b (b + n) s f.inside, z)

-- the next tag: r is what the code has found of it
module _ (s path : List ℕ) (b n i : ℕ) (f : Followed s path b n i) (h : i < length path) (r : Option Span)
    (er : r ≡ place_in (find (get_or path i 0) b 0 (slice b (b + n) s))) where
  step : onward (find (get_or path i 0) b 0 (slice b (b + n) s)) (lead (drop (i + 1) path)) ≡ place_of s path
  unfolding lead
  step = sym (rw (add-one i, drop-cons path i 0 h)) ∙ f.rest

  pub follow_nowhere : r ≡ None → place_in (place_of s path) ≡ None
  follow_nowhere q = go (find (get_or path i 0) b 0 (slice b (b + n) s)) (sym er ∙ q) step
    where
      go : (x : Part) → place_in x ≡ None → onward x (lead (drop (i + 1) path)) ≡ place_of s path → place_in (place_of s path) ≡ None
      go nowhere p e = rw (← e)
      go (part c v) p e = absurd (none-some _ (sym p))

  pub follow_on : (c m : ℕ) → r ≡ at c m → Followed s path c m (i + 1)
  follow_on c m q = go (find (get_or path i 0) b 0 (slice b (b + n) s)) refl (sym er ∙ q) step
    where
      go : (x : Part) → find (get_or path i 0) b 0 (slice b (b + n) s) ≡ x → place_in x ≡ at c m → onward x (lead (drop (i + 1) path)) ≡ place_of s path →
          Followed s path c m (i + 1)
      go nowhere ex p e = absurd (none-some _ p)
      go (part b' v) ex p e =
          let q = same_at p in
          let w = within_slice s b (b + n) b' v (omega arith) f.inside (find-within (get_or path i 0) b (slice b (b + n) s) b' v ex) in
          rw (← q.0, ← q.1) (record { inside = omega (arith, w.0, f.inside); tags = omega arith; rest = rw w.1 e })

-- ---- which paths are in rule

pub groups_all : (path : List ℕ) (n : ℕ) → suc n ≡ length path → list_all is_group (take n path) ≡ through_groups path
unfolding through_groups
groups_all [] n h = absurd (omega arith)
groups_all (t ∷ []) zero h = refl
groups_all (t ∷ []) (suc n) h = absurd (omega arith)
groups_all (t ∷ u ∷ us) zero h = absurd (omega arith)
groups_all (t ∷ u ∷ us) (suc n) h = ap (λ (b : Bool). is_group t && b) (groups_all (u ∷ us) n (omega arith))
