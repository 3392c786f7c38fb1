-- What is picked: the hand-set sheet's value first, and always a part of its sheet.
use Prim.Native.Nat.{ℕ, ◌+◌, ◌≤◌}
use mathlib.Core.Bool.{Bool, true, false}
use mathlib.Core.List.{List}
use mathlib.Core.Path.{◌≡◌, refl, sym, subst, ◌∙◌}
use mathlib.Core.Logic.{◌≢◌}
use native.Mathlib.Omega.{arith}
use lib.ListN.{length}
use Rattle.wire.specs.Choice.{pick}
use Rattle.sheet.specs.Sheets.{Part, nowhere, part, is_path, is_sheet, place_of}
use Rattle.sheet.specs.Picks.{Outcome, refused, chosen, first, pick_of, place_in, outcome_of}
use Rattle.std.specs.Prelude.{Option, None, Ok}
use Rattle.std.proofs.lemmas.Option.{none-some}
use Rattle.sheet.specs.declared.Span.{Span}
use Rattle.sheet.proofs.Walks.{at}
use Rattle.sheet.specs.declared.Picked.TheVariants.{InHand, InIncoming}
use Rattle.sheet.specs.Laws.{HandSetFirst, ChecksInOrder, RefusalsEmpty, GivenInside}
use Rattle.sheet.proofs.Steps.{sheet_says}
use Rattle.sheet.proofs.Places.{found_inside}
use Rattle.sheet.proofs.Paths.{same_at}

-- both sheets are judged before anything is looked up
looked_up : (hand incoming path : List ℕ) → is_path path ≡ true → is_sheet hand ≡ true → is_sheet incoming ≡ true →
    pick_of hand incoming path ≡ first (place_of hand path) (place_of incoming path)
unfolding pick_of
looked_up hand incoming path p h i = rw (p, h, i)

pub hand_set_first : HandSetFirst
hand_set_first hand incoming path p h i =
    record {
      by_hand = λ b v e. looked_up hand incoming path p h i ∙ rw e;
      else_incoming = λ b v e f. looked_up hand incoming path p h i ∙ rw (e, f);
      else_30 = λ e f. looked_up hand incoming path p h i ∙ rw (e, f);
    }

-- what the code has found in the two sheets
module _ (hand incoming path : List ℕ) (p : is_path path ≡ true) (h : is_sheet hand ≡ true) (i : is_sheet incoming ≡ true) where
  pub picked-by_hand : (r : Option Span) (b n : ℕ) → r ≡ place_in (place_of hand path) → r ≡ at b n → outcome_of (Ok (InHand b n)) ≡ pick_of hand incoming path
  picked-by_hand r b n er q = sym (looked_up hand incoming path p h i ∙ go (place_of hand path) (place_of incoming path) (sym er ∙ q))
    where
      go : (x y : Part) → place_in x ≡ at b n → first x y ≡ outcome_of (Ok (InHand b n))
      go (part c v) y e =
          let q = same_at e in
          rw (q.0, q.1)
      go nowhere y e = absurd (none-some _ e)

  module _ (r : Option Span) (er : r ≡ place_in (place_of hand path)) (q : r ≡ None) (r' : Option Span) (er' : r' ≡ place_in (place_of incoming path)) where
    not_by_hand : place_of hand path ≡ nowhere
    not_by_hand = go (place_of hand path) (sym er ∙ q)
      where
        go : (x : Part) → place_in x ≡ None → x ≡ nowhere
        go nowhere e = refl
        go (part c v) e = absurd (none-some _ (sym e))

    pub picked-incoming : (b n : ℕ) → r' ≡ at b n → outcome_of (Ok (InIncoming b n)) ≡ pick_of hand incoming path
    picked-incoming b n q' = sym (looked_up hand incoming path p h i ∙ rw not_by_hand (go (place_of incoming path) (sym er' ∙ q')))
      where
        go : (x : Part) → place_in x ≡ at b n → first nowhere x ≡ outcome_of (Ok (InIncoming b n))
        go (part c v) e =
            let q = same_at e in
            rw (q.0, q.1)
        go nowhere e = absurd (none-some _ e)

    pub picked-nowhere : r' ≡ None → refused 30 ≡ pick_of hand incoming path
    picked-nowhere q' = sym (looked_up hand incoming path p h i ∙ rw not_by_hand (go (place_of incoming path) (sym er' ∙ q')))
      where
        go : (x : Part) → place_in x ≡ None → first nowhere x ≡ refused 30
        go nowhere e = refl
        go (part c v) e = absurd (none-some _ (sym e))

pub checks_in_order : ChecksInOrder
unfolding pick_of
checks_in_order hand incoming path =
    record {
      bad_path = λ p. rw p;
      bad_hand = λ p h. rw (p, h);
      bad_incoming = λ p h i. rw (p, h, i);
    }

-- ---- what holds of every outcome: a part of its sheet, the empty one on a refusal

abbrev InSheet : List ℕ → List ℕ → Outcome → Type 0
InSheet hand incoming o = (o.begin + o.size ≤ length (chosen o hand incoming)) × (o.begin + o.size ≤ 4096)

-- of an outcome it is enough to look at refusals, and at what a path finds in well-formed sheets
outcomes : (P : Outcome → Type 0) (hand incoming path : List ℕ) → ((n : ℕ) → P (refused n)) →
    (is_sheet hand ≡ true → is_sheet incoming ≡ true → P (first (place_of hand path) (place_of incoming path))) → P (pick_of hand incoming path)
unfolding pick_of
outcomes P hand incoming path refuses finds = go (is_path path) (is_sheet hand) refl (is_sheet incoming) refl
  where
    go : (a b : Bool) → is_sheet hand ≡ b → (c : Bool) → is_sheet incoming ≡ c →
        P (pick a (pick b (pick c (first (place_of hand path) (place_of incoming path)) (refused 29)) (refused 28)) (refused 27))
    go false b h c i = refuses 27
    go true false h c i = refuses 28
    go true true h false i = refuses 29
    go true true h true i = finds h i

pub given_inside : GivenInside
given_inside hand incoming path =
    outcomes (InSheet hand incoming) hand incoming path
    (λ n. (omega arith, omega arith))
    (λ h i. go (place_of hand path) refl (place_of incoming path) refl (sheet_says hand h).0 (sheet_says incoming i).0)
  where
    go : (p : Part) → place_of hand path ≡ p → (q : Part) → place_of incoming path ≡ q → length hand ≤ 4096 → length incoming ≤ 4096 →
        InSheet hand incoming (first p q)
    go (part b v) ep q eq h i =
        let x = (found_inside hand path b v ep).0 in
        (x, omega arith)
    go nowhere ep (part b v) eq h i =
        let x = (found_inside incoming path b v eq).0 in
        (x, omega arith)
    go nowhere ep nowhere eq h i = (omega arith, omega arith)

pub part_of : (hand incoming path : List ℕ) (o : Outcome) → o ≡ pick_of hand incoming path → InSheet hand incoming o
part_of hand incoming path o e = subst (InSheet hand incoming) (sym e) (given_inside hand incoming path)

abbrev Empty : Outcome → Type 0
Empty o = o.number ≢ 0 → o ≡ refused o.number

pub refusals_empty : RefusalsEmpty
refusals_empty hand incoming path = outcomes Empty hand incoming path (λ n h. refl) (λ h i. go (place_of hand path) (place_of incoming path))
  where
    go : (p q : Part) → Empty (first p q)
    go (part b v) q h = absurd (h refl)
    go nowhere (part b v) h = absurd (h refl)
    go nowhere nowhere h = refl
