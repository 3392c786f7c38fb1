-- An opening, by what the code's two layouts have answered.
use Rattle.std.specs.Prelude.{Result, Ok, Err}
use Prim.Native.Nat.{ℕ, ◌≤◌, ◌<◌}
use mathlib.Core.Bool.{true, false, ◌||◌}
use mathlib.Core.Path.{◌≡◌, sym, ap, ◌∙◌}
use native.Mathlib.Omega.{arith}
use lib.Dec.{leb, ltb, eqb}
use borrow.Author.Tests.{ne_eqb}
use Rattle.refusal.specs.Numbers.{number_of}
use Rattle.refusal.specs.declared.Refusal.{Refusal}
use Rattle.refusal.proofs.Positive.{number_positive}
use Rattle.region.specs.Layout.{outcome_of, layout}
use Rattle.region.specs.declared.RegionLayout.{RegionLayout}
use Rattle.region.proofs.AcceptedLayouts.{accepted_layouts_lie_inside}
use Rattle.icbmsg.specs.Outcome.{nothing, accepted}
use Rattle.icbmsg.specs.Opening.{region, fresh, closed_with, opening, tx_layout, rx_layout}
use Rattle.icbmsg.specs.declared.Bounds.{Bounds}
use Rattle.icbmsg.specs.declared.Opening.{Opening}

-- what the code needs of a region that is laid out
module _ (b : Bounds) (r a : ℕ) (x : Result RegionLayout Refusal) (h : outcome_of x ≡ layout b.begin b.end b.block_count r a) (y : RegionLayout) (q : x ≡ Ok y) where
  is : layout b.begin b.end b.block_count r a ≡ outcome_of (Ok y)
  is = sym h ∙ ap outcome_of q

  pub laid_out : (b.begin ≤ b.end) × (b.begin ≤ y.begin) × (b.begin ≤ y.blocks_begin) × (b.block_count < 65536) × (a < 65536)
  laid_out =
      let z = rw is at (accepted_layouts_lie_inside b.begin b.end b.block_count r a (ap (λ o. o.number) is)) in
      let w = z.in_rule in
      omega (arith, z.begins, z.header_and_data, w.bounds, w.local_high, w.alignment_high)

not_zero : (x : Refusal) → eqb (number_of x) 0 ≡ false
not_zero x = ne_eqb (number_of x) 0 (λ (q : number_of x ≡ 0). omega (arith, number_positive x))

-- the four ways out
module _ (o : Opening) (t : Result RegionLayout Refusal) (h : outcome_of t ≡ tx_layout o) where
  pub tx-refused : (x : Refusal) → t ≡ Err x → closed_with (number_of x) ≡ opening o
  unfolding opening
  tx-refused x q = rw (← h, q, not_zero x)

  module _ (y : RegionLayout) (q : t ≡ Ok y) (r : Result RegionLayout Refusal) (k : outcome_of r ≡ rx_layout o) where
    pub rx-refused : (x : Refusal) → r ≡ Err x → closed_with (number_of x) ≡ opening o
    unfolding opening
    rx-refused x p = rw (← h, q, ← k, p, not_zero x)

    module _ (z : RegionLayout) (p : r ≡ Ok z) where
      pub overlap : (leb o.tx.end o.rx.begin || leb o.rx.end o.tx.begin) ≡ false → closed_with 5 ≡ opening o
      unfolding opening
      overlap l = rw (← h, q, ← k, p, l)

      pub opened : (leb o.tx.end o.rx.begin || leb o.rx.end o.tx.begin) ≡ true →
          accepted (fresh (ltb o.rx.begin o.tx.begin) o.alignment (region o.tx (outcome_of (Ok y))) (region o.rx (outcome_of (Ok z)))) nothing
          ≡ opening o
      unfolding opening
      opened l = rw (← h, q, ← k, p, l)
