-- The library's searches, and those that the rules speak of.
use Prim.Native.Nat.{ℕ, zero, suc, ◌+◌}
use mathlib.Core.Bool.{Bool, true, false, cond, ◌||◌}
use mathlib.Core.Path.{◌≡◌, refl, ap, sym, ◌∙◌}
use mathlib.Core.List.{List}
use native.Mathlib.Omega.{arith}
use native.Mathlib.Numerals.{add-one}
use Rattle.std.proofs.Math.Seq.{drop-cons, drop-length}
use lib.ListN.{length, get_or, drop}
use denote.Param.Members.{Mut}
use denote.Ref.{Bor}
use Rattle.std.specs.Prelude.{Option, None, Some}
use Rattle.std.specs.Fn.{Called}
use Rattle.std.specs.Iterator.{FindsPosition, ChecksAny}
use Rattle.std.specs.Slice.Iter.{iter_rest}
use Rattle.std.proofs.Common.{Iter}
use Rattle.std.proofs.iter.Yields.{fronts}
use Rattle.std.proofs.lemmas.Iterator.{YieldsList-from_slice}
use Rattle.std.proofs.lemmas.Iterator.Search.{position_from_yields_List, any_from_yields_List}
use Rattle.std.specs.List.{position, position_from, list_any}
use Rattle.std.proofs.lemmas.List.Quantifiers.{position-Some}
use Rattle.std.proofs.lemmas.Iterator.Adapters.{position_from-zero}
use Rattle.wire.specs.Choice.{pick}
use Rattle.blocks.specs.Search.{Search, found_at, is_found, first_from}
use Rattle.blocks.specs.Tables.{search_of, FoundBelow}

-- one more element
first_or : (b : Bool) (i : ℕ) (r : Option ℕ) (q : Search) → search_of r ≡ q → search_of (cond b (Some i) r) ≡ pick b (found_at i) q
first_or true i r q h = refl
first_or false i r q h = h

some_or : (b : Bool) (i : ℕ) (r : Bool) (q : Search) → r ≡ is_found q → (b || r) ≡ is_found (pick b (found_at i) q)
some_or true i r q h = refl
some_or false i r q h = h

module _ {A : Type 0} (f : A → Bool) (d : A) where
  -- of the elements from i on
  from : (l : List A) (i n : ℕ) → i + n ≡ length l → search_of (position_from f i (drop i l)) ≡ first_from f d l n i
  from l i zero h = let e : i ≡ length l = omega arith in rw (e, drop-length l) refl
  from l i (suc n) h = rw (drop-cons l i d (omega arith), add-one i) (first_or (f (get_or l i d)) i _ _ (from l (suc i) n (omega arith)))

  pub some : (l : List A) (i n : ℕ) → i + n ≡ length l → list_any f (drop i l) ≡ is_found (first_from f d l n i)
  some l i zero h = let e : i ≡ length l = omega arith in rw (e, drop-length l) refl
  some l i (suc n) h = rw (drop-cons l i d (omega arith)) (some_or (f (get_or l i d)) i _ _ (some l (suc i) n (omega arith)))

  below : (r : Option ℕ) (l : List A) → r ≡ position f l → FoundBelow r 1 (length l)
  below None l h = tt
  below (Some i) l h = omega (arith, (position-Some f l i d (sym h)).0)

  -- what `position` and `any` find in eight of them, by a closure that tests an element so
  module _ {F : Type 0} {g : Mut F (Bor A × Unit {0}) Bool} {s : Iter A} (l : List A) (c : F) (tells : (x : Bor A) (b : Bool) (q : F) → Called g c (x, tt) b q → (q ≡ c) × (b ≡ f x.now)) where
    pub first_place : (u : Iter A) (r : Option ℕ) → FindsPosition fronts g s c r u → iter_rest s ≡ l → length l ≡ 8 → (search_of r ≡ first_from f d l 8 0) × FoundBelow r 1 8
    first_place u r h e k =
        let w : r ≡ position f l = position_from_yields_List f u c r h (YieldsList-from_slice l e) tells in
        (rw w (ap search_of (position_from-zero f l) ∙ from l 0 8 (omega arith)), rw k at (below r l w))

    pub some_place : (u : Iter A) (r : Bool) → ChecksAny fronts g s c r u → iter_rest s ≡ l → length l ≡ 8 → r ≡ is_found (first_from f d l 8 0)
    some_place u r h e k = any_from_yields_List f u c r h (YieldsList-from_slice l e) tells ∙ some l 0 8 (omega arith)
