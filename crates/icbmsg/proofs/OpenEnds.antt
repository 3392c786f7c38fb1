-- An opening gives an open end exactly if it is accepted.
use Prim.Native.Nat.{ℕ, ◌%◌, ◌≤◌}
use mathlib.Core.Bool.{Bool, true}
use mathlib.Core.Path.{◌≡◌, refl, sym}
use mathlib.Core.List.{List, [], ◌∷◌, ◌++◌}
use native.Mathlib.Omega.{arith}
use lib.Dec.{eqb}
use borrow.Author.Tests.{le-leb, lt-ltb, eq-eqb, ne_eqb}
use Rattle.region.specs.Layout.{layout}
use Rattle.region.proofs.AcceptedLayouts.{accepted_layouts_lie_inside}
use Rattle.icmsg.specs.Ring.{in_rule}
use Rattle.icbmsg.specs.Outcome.{Outcome}
use Rattle.icbmsg.specs.Ends.{sound_region, sound_end, is_open}
use Rattle.icbmsg.specs.Opening.{opening, region, fresh_of}
use Rattle.icbmsg.specs.declared.Bounds.{Bounds}
use Rattle.icbmsg.specs.declared.Opening.{Opening}
use Rattle.blocks.proofs.Tables.{Each, each}
use Rattle.icbmsg.proofs.Separate.{Opens, opens, shuts, how_opened}

-- the numbers of an accepted layout pass every test of a region
region_sound : (b : Bounds) (r a : ℕ) → (layout b.begin b.end b.block_count r a).number ≡ 0 → Each (sound_region a (region b (layout b.begin b.end b.block_count r a)))
region_sound b r a h =
    let y = accepted_layouts_lie_inside b.begin b.end b.block_count r a h in
    let w = y.in_rule in
    omega (arith, le-leb, lt-ltb, eq-eqb, y.begins, y.header_and_data, y.blocks, y.ends, y.data_low, y.data_fours, y.block_low, w.local_low, w.local_high, w.remote_low, w.bytes_high)

zero-in_rule : (d : ℕ) → 1 ≤ d → in_rule d 0 ≡ true
unfolding in_rule
zero-in_rule d h = rw (lt-ltb 0 d h) refl

each_append : (xs ys : List Bool) → Each xs → Each ys → Each (xs ++ ys)
each_append [] ys h k = k
each_append (x ∷ xs) ys h k = (h.0, each_append xs ys h.1 k)

opened_open : {o : Opening} {x : Outcome} → Opens o x → is_open x.next ≡ eqb x.number 0
unfolding is_open
opened_open {o} (opens p q) =
    let tx = accepted_layouts_lie_inside o.tx.begin o.tx.end o.tx.block_count o.rx.block_count o.alignment p in
    let rx = accepted_layouts_lie_inside o.rx.begin o.rx.end o.rx.block_count o.tx.block_count o.alignment q in
    let t = region_sound o.tx o.rx.block_count o.alignment p in
    let r = region_sound o.rx o.tx.block_count o.alignment q in
    each (sound_end (fresh_of o)) (
      le-leb 4 o.alignment tx.in_rule.alignment_low,
      (
        le-leb o.alignment 256 tx.in_rule.alignment_high,
        (
          eq-eqb (o.alignment % 4) 0 tx.in_rule.alignment_fours,
          (
            zero-in_rule (fresh_of o).tx.data_length (omega (arith, tx.data_low)),
            (
              zero-in_rule (fresh_of o).rx.data_length (omega (arith, rx.data_low)),
              each_append (sound_region o.alignment (fresh_of o).tx) (sound_region o.alignment (fresh_of o).rx) t r,
            ),
          ),
        ),
      ),
    )
opened_open (shuts n h) = sym (ne_eqb n 0 h)

pub open_exactly : (o : Opening) → is_open (opening o).next ≡ eqb (opening o).number 0
open_exactly o = opened_open (how_opened o)
