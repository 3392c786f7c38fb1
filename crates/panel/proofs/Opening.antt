-- The ring of a region that is lent whole, and calls on it.
use Rattle.std.specs.Prelude.{Result, Ok, Err}
use Prim.Native.Nat.{ℕ, ◌-◌, ◌≤◌, ◌<◌, min}
use mathlib.Core.Bool.{Bool, true, false}
use mathlib.Core.Path.{◌≡◌, refl, sym}
use mathlib.Core.List.{List, []}
use native.Mathlib.Omega.{arith}
use lib.Dec.{leb, eqb}
use lib.ListN.{length, take, length-take}
use lib.Seq.{take_all}
use borrow.Author.Tests.{eq-eqb, ne_eqb, leb-true, leb-false}
use Rattle.wire.specs.Choice.{check, passed}
use Rattle.wire.proofs.Choices.{passed-refused}
use Rattle.refusal.specs.Numbers.{number_of}
use Rattle.refusal.specs.declared.Refusal.{Refusal}
use Rattle.refusal.proofs.Positive.{number_positive}
use Rattle.region.specs.Layout.{outcome_of, layout, plain}
use Rattle.region.specs.declared.RegionLayout.{RegionLayout}
use Rattle.region.proofs.AcceptedLayouts.{accepted_layouts_lie_inside}
use Rattle.region.proofs.PlainLayouts.{accepted_plain}
use Rattle.icmsg.specs.Ring.{read_index_at, index_at, is_sound}
use Rattle.icmsg.specs.Rules.{Outcome, refusal, push_number, pushed, push_rule}
use Rattle.icmsg.specs.declared.Ring.{Ring}
use Rattle.icmsg.proofs.Checks.{too_long as cannot-fit}
use Rattle.unit.specs.Opening.{Opened as Opened-unit}
use Rattle.unit.specs.Answers.{opened_number as unitNumber, opened_of}
use Rattle.unit.specs.declared.Opened.{Opened as UnitOpened}
use Rattle.panel.specs.Calls.{open_number, ring_in, LiesIn, opened_number, OpensRing, on_ring}

-- ---- a layout that is accepted lies in its region

pub layout-lies : (b e l r k : ℕ) → LiesIn b e (layout b e l r k)
layout-lies b e l r k h = let y = accepted_layouts_lie_inside b e l r k h in (y.in_rule.bounds, y.begins)

pub plain-lies : (b e k : ℕ) → LiesIn b e (plain b e k)
plain-lies b e k h = let y = accepted_plain b e k h in (y.in_rule.bounds, y.begins)

-- ---- the ring, by what the code's layout answered

module _ (a : Result RegionLayout Refusal) (b e : ℕ) where
  pub layout-refused : (n : ℕ) (x : Refusal) → a ≡ Err x → number_of x ≡ open_number (outcome_of a) b e n
  unfolding open_number
  layout-refused n x q = rw q (sym (passed-refused (number_of x) (check (eqb n (e - b)) 6 0) (λ m. m) (number_positive x)))

  module _ (y : RegionLayout) (q : a ≡ Ok y) where
    pub lies-there : LiesIn b e (outcome_of a) → (b < e) × (b ≤ y.begin)
    lies-there h = (rw q at h) refl

    pub wrong_slice : (n : ℕ) → (n ≡ e - b → ⊥) → 6 ≡ open_number (outcome_of a) b e n
    unfolding open_number
    wrong_slice n d = rw (q, ne_eqb n (e - b) d)

    pub whole_slice : (n : ℕ) → n ≡ e - b → 0 ≡ open_number (outcome_of a) b e n
    unfolding open_number
    whole_slice n d = rw (q, eq-eqb n (e - b) d)

    pub ring_opened : (k : ℕ) → ◌≡◌ {A = Ring} (record { offset = y.begin - b; alignment = k; data_length = y.data_length }) (ring_in (outcome_of a) b k)
    ring_opened k = rw q

-- ---- a call on it

pub call_is : (a : Result Ring Refusal) (m : ℕ) (g : Ring) (f : Ring → Outcome) → opened_number a ≡ m → OpensRing a g → on_ring a f ≡ passed m (f g) refusal
call_is (Ok r) m g f h e = rw (← h, e)
call_is (Err x) m g f h e = rw (← h) (sym (passed-refused (number_of x) (f g) refusal (number_positive x)))

-- ---- a content that is too long is so by its first 65,536 bytes

too_long : (n : ℕ) (g : Ring) (r w m : ℕ) → 65535 < m → push_number n g r w m ≡ check (is_sound n g w) 6 11
unfolding push_number
too_long n g r w m h = rw (← cannot-fit g.data_length r w m h)

both-refused : (x : Bool) (a b : Outcome) → passed (check x 6 11) a refusal ≡ passed (check x 6 11) b refusal
both-refused true a b = refl
both-refused false a b = refl

pub long_enough : (s : List ℕ) (g : Ring) (w : ℕ) (c : List ℕ) (k : ℕ) → k ≡ min (length c) 65536 → push_rule s g w (take k c) ≡ push_rule s g w c
unfolding push_rule
long_enough s g w c k e = go (leb (length c) 65536) refl
  where
    r : ℕ
    r = index_at s (read_index_at g)

    go : (x : Bool) → leb (length c) 65536 ≡ x →
        passed (push_number (length s) g r w (length (take k c))) (pushed [] g w (take k c)) refusal ≡ passed (push_number (length s) g r w (length c)) (pushed [] g w c) refusal
    go true h =
        let l : length c ≤ 65536 = leb-true (length c) 65536 h in
        rw (take_all k c (omega arith))
    go false h =
        let l : 65536 < length c = leb-false (length c) 65536 h in
        let n : length (take k c) ≡ 65536 = simp length-take (omega arith) in
        rw (too_long (length s) g r w (length (take k c)) (omega arith), too_long (length s) g r w (length c) (omega arith))
        (both-refused (is_sound (length s) g w) (pushed [] g w (take k c)) (pushed [] g w c))

-- ---- the number of a unit's opening

pub unit-number : (r : UnitOpened) (o : Opened-unit) → opened_of r ≡ o → (a : Result (Unit {0}) Refusal) → r.answer ≡ a → unitNumber a ≡ o.number
unit-number r o h a e = rw (← h, ← e)
