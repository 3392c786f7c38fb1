-- A plain region: what is answered at each check, and that an accepted one has its ring inside.
use Prim.Native.Nat.{ℕ, ◌+◌, ◌-◌, ◌≤◌, ◌<◌, ◌∣◌}
use mathlib.Core.Bool.{Bool, true, false, not}
use mathlib.Core.Path.{◌≡◌, refl, sym, ◌∙◌}
use native.Mathlib.Omega.{arith}
use native.Mathlib.Nat.{dvd_refl, dvd_trans, dvd-add, dvd-sub, dvd_of_mod-eq-zero, mod-eq-zero_of_dvd, sub-add-eq}
use lib.Dec.{leb}
use borrow.Author.Tests.{leb-true, not-true, not-false, lt-leb, le-leb}
use Rattle.wire.specs.Choice.{pick}
use Rattle.region.specs.Layout.{Outcome, refused, is_alignment, is_block_count, are_bounds, round_down, round_up, header_size, aligned_size, accepted, fitted_plain, plain}
use Rattle.region.specs.Laws.{InRule, LaidOutPlain, AcceptedPlain}
use Rattle.region.proofs.Checks.{in_rule}
use Rattle.region.proofs.AcceptedLayouts.{up_above, down_below, down_aligned}

-- checks 1 and 3 say as much as those of a layout with a block in each region
plain-in_rule : (b e a : ℕ) → is_alignment a ≡ true → are_bounds b e ≡ true → InRule b e 1 1 a
unfolding is_block_count
plain-in_rule b e a p q = in_rule b e 1 1 a p refl q

-- ---- x and w are what the code's checks 1 and 3 gave

module _ (b e a : ℕ) (x : Bool) (p : x ≡ is_alignment a) where
  pub plain_1 : not x ≡ true → refused 1 ≡ plain b e a
  unfolding plain
  plain_1 h = rw (← p, not-true x h)

  module _ (h : not x ≡ false) (w : Bool) (q : w ≡ are_bounds b e) where
    pub plain_3 : not w ≡ true → refused 3 ≡ plain b e a
    unfolding plain
    plain_3 k = rw (← p, not-false x h, ← q, not-true w k)

    pub plain-passed : not w ≡ false → fitted_plain b e a ≡ plain b e a
    unfolding plain
    plain-passed k = rw (← p, not-false x h, ← q, not-false w k)

    pub plain-rule : not w ≡ false → InRule b e 1 1 a
    plain-rule k = plain-in_rule b e a (sym p ∙ not-false x h) (sym q ∙ not-false w k)

-- ---- check 4, with the bytes before the aligned region and behind it

-- a layout without blocks
ring_alone : (first last a : ℕ) → ◌≡◌ {A = Outcome} (accepted first last 0 a 0)
    (record { number = 0; begin = first; data_length = last - first - header_size a; blocks_begin = last; block_size = 0; end = last })
ring_alone first last a = let none : last - 0 ≡ last = omega arith in rw none

module _ (b e a before behind : ℕ) (lt : b < e) (u : b + before ≡ round_up a b) (v : round_down a e + behind ≡ e) where
  pub plain_4 : e - b < before + behind + (a + 4) + 24 → refused 4 ≡ fitted_plain b e a
  unfolding fitted_plain aligned_size
  plain_4 l = rw (lt-leb (header_size a + 24) (round_down a e - round_up a b) (omega arith))

  -- the values, as the code computes them
  abbrev counted : Outcome
  counted = record { number = 0; begin = b + before; data_length = e - b - before - behind - (a + 4); blocks_begin = e - behind; block_size = 0; end = e - behind }

  pub plain-accepted : before + behind + (a + 4) + 24 ≤ e - b → counted ≡ fitted_plain b e a
  unfolding fitted_plain aligned_size
  plain-accepted l =
      let enough = le-leb (header_size a + 24) (round_down a e - round_up a b) (omega arith) in
      let last : e - behind ≡ round_down a e = omega arith in
      let data_is : e - b - before - behind - (a + 4) ≡ round_down a e - round_up a b - (a + 4) = simp (← sub-add-eq) (omega arith) in
      rw (enough, ring_alone (round_up a b) (round_down a e) a, last, data_is, u)

-- ---- an accepted plain layout

module _ (b e a : ℕ) (w : InRule b e 1 1 a) (room : header_size a + 24 ≤ aligned_size b e a) where
  laid_out : LaidOutPlain b e a (accepted (round_up a b) (round_down a e) 0 a 0)
  unfolding aligned_size round_up
  laid_out =
      let four : 4 ∣ a = dvd_of_mod-eq-zero 4 w.alignment_fours in
      let first : a ∣ round_up a b = down_aligned a (b + (a - 1)) in
      let last : a ∣ round_down a e = down_aligned a e in
      rw (ring_alone (round_up a b) (round_down a e) a)
      (record {
        in_rule = w;
        begins = up_above a b (omega (arith, w.alignment_low));
        header_and_data = omega (arith, room);
        ends = down_below a e;
        data_low = omega (arith, room);
        data_fours = mod-eq-zero_of_dvd 4 (dvd-sub 4 (dvd_trans 4 four (dvd-sub a last first)) (dvd-add 4 four (dvd_refl 4)));
        begin_aligned = mod-eq-zero_of_dvd a first;
        end_aligned = mod-eq-zero_of_dvd a last;
        block_none = refl;
        blocks_begin = refl;
      })

pub accepted_plain : AcceptedPlain
unfolding plain fitted_plain
accepted_plain b e a h = go (is_alignment a) (are_bounds b e) (leb m n) refl refl refl h
  where
    m : ℕ
    m = header_size a + 24

    n : ℕ
    n = aligned_size b e a

    y : Outcome
    y = accepted (round_up a b) (round_down a e) 0 a 0

    go : (x w f : Bool) → is_alignment a ≡ x → are_bounds b e ≡ w → leb m n ≡ f → (pick x (pick w (pick f y (refused 4)) (refused 3)) (refused 1)).number ≡ 0 →
        LaidOutPlain b e a (pick (is_alignment a) (pick (are_bounds b e) (pick (leb m n) y (refused 4)) (refused 3)) (refused 1))
    go true true true p q u h = rw (p, q, u) (laid_out b e a (plain-in_rule b e a p q) (leb-true m n u))
    go true true false p q u h = absurd (omega arith)
    go true false f p q u h = absurd (omega arith)
    go false w f p q u h = absurd (omega arith)
