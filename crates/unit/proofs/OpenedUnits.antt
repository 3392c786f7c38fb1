-- What an accepted opening gives: rings that lie in their regions, and a start that is accepted.
use Prim.Native.Nat.{ℕ, zero, suc, ◌-◌, ◌≤◌}
use mathlib.Core.Bool.{Bool, true, false, ◌||◌}
use mathlib.Core.Path.{◌≡◌, refl, ap}
use native.Mathlib.Nat.{mod-eq_of_lt}
use native.Mathlib.Omega.{arith}
use lib.Dec.{leb}
use borrow.Author.Tests.{le-leb, lt-ltb}
use Rattle.wire.specs.Choice.{passed}
use Rattle.wire.proofs.Choices.{check-passed}
use Rattle.region.specs.Layout.{plain}
use Rattle.region.proofs.PlainLayouts.{accepted_plain}
use Rattle.icmsg.specs.Ring.{in_rule, packet_length, behind}
use Rattle.icmsg.specs.Rules.{accepted, fit_number, push_number, start_rule}
use Rattle.icmsg.specs.Laws.{Sound}
use Rattle.icmsg.specs.Unread.{Small}
use Rattle.icmsg.specs.declared.Ring.{Ring}
use Rattle.icmsg.proofs.Checks.{sound_test}
use Rattle.icmsg.proofs.NeverJams.{used-none}
use Rattle.unit.specs.Opening.{Opened, region, open_number, fresh_of, closed_with, opening}
use Rattle.unit.specs.Rules.{ring_of}
use Rattle.unit.specs.TwoUnits.{swapped}
use Rattle.unit.specs.declared.Bounds.{Bounds}
use Rattle.unit.specs.declared.Opening.{Opening}

-- ---- one region

-- its ring is sound at index 0, of 32-bit numbers, and takes a start
pub record RingSound (b : Bounds) (a : ℕ) : Type 0 where
  pub sound : Sound (b.end - b.begin) (ring_of a (region b a)) 0
  pub small : Small (ring_of a (region b a))
  pub start : (start_rule (b.end - b.begin) (ring_of a (region b a))).answer ≡ accepted 13 20

-- 24 data bytes have room for the start packet, and one stays unused
start_fits : (d : ℕ) → 24 ≤ d → fit_number d 0 0 13 ≡ 0
unfolding fit_number in_rule packet_length
start_fits d h = rw (lt-ltb 0 d (omega arith), used-none d 0 (omega arith), le-leb 20 (d - 1) (omega arith))

start-accepted : (n : ℕ) (g : Ring) → Sound n g 0 → 24 ≤ g.data_length → (start_rule n g).answer ≡ accepted 13 20
unfolding start_rule push_number behind packet_length
start-accepted n g o h = rw (sound_test n g 0 o, start_fits g.data_length h) (ap (accepted 13) (mod-eq_of_lt (omega arith)))

pub ring_sound : (b : Bounds) (a : ℕ) → (plain b.begin b.end a).number ≡ 0 → RingSound b a
ring_sound b a h =
    let y = accepted_plain b.begin b.end a h in
    let o : Sound (b.end - b.begin) (ring_of a (region b a)) 0 =
    record {
      header = y.in_rule.alignment_low;
      inside = omega (arith, y.in_rule.bounds, y.begins, y.header_and_data, y.ends);
      data_fours = y.data_fours;
      below = omega (arith, y.data_low);
      fours = refl;
    } in
    record {
      sound = o;
      small = omega (arith, y.in_rule.bytes_high, y.begins, y.header_and_data, y.ends);
      start = start-accepted (b.end - b.begin) (ring_of a (region b a)) o y.data_low;
    }

-- ---- all checks have passed

pub record Opens (o : Opening) : Type 0 where
  pub is : opening o ≡ record { number = 0; unit = fresh_of o }
  pub tx : (plain o.tx.begin o.tx.end o.alignment).number ≡ 0
  pub rx : (plain o.rx.begin o.rx.end o.alignment).number ≡ 0
  pub apart : (leb o.tx.end o.rx.begin || leb o.rx.end o.tx.begin) ≡ true

passed_0 : (n m : ℕ) → passed n m (λ k. k) ≡ 0 → (n ≡ 0) × (m ≡ 0)
passed_0 zero m h = (refl, h)
passed_0 (suc n) m h = absurd (omega arith)

opened-number : (n : ℕ) (u : Opened) → (passed n u closed_with).number ≡ 0 → n ≡ 0
opened-number zero u h = refl
opened-number (suc n) u h = absurd (omega arith)

pub opens_says : (o : Opening) → (opening o).number ≡ 0 → Opens o
unfolding opening open_number
opens_says o h =
    let n : open_number o ≡ 0 = opened-number (open_number o) (record { number = 0; unit = fresh_of o }) h in
    let p = passed_0 (plain o.tx.begin o.tx.end o.alignment).number _ n in
    let q = passed_0 (plain o.rx.begin o.rx.end o.alignment).number _ p.1 in
    record { is = rw n; tx = p.0; rx = q.0; apart = (check-passed _ 5 0 (omega arith) q.1).0 }

-- the other unit's opening is accepted too
or_swaps : (x y : Bool) → (x || y) ≡ true → (y || x) ≡ true
or_swaps true true h = refl
or_swaps true false h = refl
or_swaps false true h = refl
or_swaps false false h = h

pub swapped_opens : (o : Opening) → Opens o → Opens (swapped o)
unfolding opening open_number
swapped_opens o h =
    let z = or_swaps (leb o.tx.end o.rx.begin) (leb o.rx.end o.tx.begin) h.apart in
    record { is = rw (h.rx, h.tx, z); tx = h.rx; rx = h.tx; apart = z }
