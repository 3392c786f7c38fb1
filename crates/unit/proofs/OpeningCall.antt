-- What is answered at each check of an opening, by what the code has asked so far.
use Rattle.std.specs.Prelude.{Result, Ok, Err}
use Prim.Native.Nat.{ℕ, ◌≤◌, ◌<◌}
use mathlib.Core.Bool.{true, false, ◌||◌}
use mathlib.Core.Path.{◌≡◌, sym, ap, ◌∙◌}
use lib.Dec.{leb}
use Rattle.wire.specs.Choice.{check, passed}
use Rattle.wire.proofs.Choices.{passed-refused}
use Rattle.refusal.specs.Numbers.{number_of}
use Rattle.refusal.specs.declared.Refusal.{Refusal}
use Rattle.refusal.proofs.Positive.{number_positive}
use Rattle.region.specs.Layout.{outcome_of, plain}
use Rattle.region.specs.declared.RegionLayout.{RegionLayout}
use Rattle.region.proofs.PlainLayouts.{accepted_plain}
use Rattle.unit.specs.Opening.{Opened, region, open_number, fresh, fresh_of, closed_with, opening}
use Rattle.unit.specs.Answers.{placed_number, PlacedAs}
use Rattle.unit.specs.declared.Bounds.{Bounds}
use Rattle.unit.specs.declared.Opening.{Opening}
use Rattle.unit.specs.declared.Region.{Region}

-- ---- one region, by what the code's layout answered

module _ (b : Bounds) (k : ℕ) (a : Result RegionLayout Refusal) (h : outcome_of a ≡ plain b.begin b.end k) (y : RegionLayout) (q : a ≡ Ok y) where
  is : plain b.begin b.end k ≡ outcome_of (Ok y)
  is = sym h ∙ ap outcome_of q

  pub some_bytes : b.begin < b.end
  some_bytes = (accepted_plain b.begin b.end k (ap (λ o. o.number) is)).in_rule.bounds

  pub ring_inside : b.begin ≤ y.begin
  ring_inside = rw is at (accepted_plain b.begin b.end k (ap (λ o. o.number) is)).begins

-- ---- both regions

-- 5, behind them
abbrev apart : Opening → ℕ
apart o = check (leb o.tx.end o.rx.begin || leb o.rx.end o.tx.begin) 5 0

closed_by : (o : Opening) (x : Refusal) → open_number o ≡ number_of x → closed_with (number_of x) ≡ opening o
unfolding opening
closed_by o x e = rw e (sym (passed-refused (number_of x) (record { number = 0; unit = fresh_of o }) closed_with (number_positive x)))

module _ (o : Opening) (a : Result Region Refusal) (h : placed_number a ≡ (plain o.tx.begin o.tx.end o.alignment).number) where
  tx-number : (x : Refusal) → a ≡ Err x → open_number o ≡ number_of x
  unfolding open_number
  tx-number x q = rw (← h, q) (passed-refused (number_of x) (passed (plain o.rx.begin o.rx.end o.alignment).number (apart o) (λ n. n)) (λ n. n) (number_positive x))

  pub tx-refused : (x : Refusal) → a ≡ Err x → closed_with (number_of x) ≡ opening o
  tx-refused x q = closed_by o x (tx-number x q)

  module _ (t : Region) (q : a ≡ Ok t) (b : Result Region Refusal) (i : placed_number b ≡ (plain o.rx.begin o.rx.end o.alignment).number) where
    rx-number : (x : Refusal) → b ≡ Err x → open_number o ≡ number_of x
    unfolding open_number
    rx-number x p = rw (← h, q, ← i, p) (passed-refused (number_of x) (apart o) (λ n. n) (number_positive x))

    pub rx-refused : (x : Refusal) → b ≡ Err x → closed_with (number_of x) ≡ opening o
    rx-refused x p = closed_by o x (rx-number x p)

    module _ (r : Region) (p : b ≡ Ok r) where
      pub overlap : (leb o.tx.end o.rx.begin || leb o.rx.end o.tx.begin) ≡ false → closed_with 5 ≡ opening o
      unfolding opening open_number
      overlap z = rw (← h, q, ← i, p, z)

      pub opens : PlacedAs a (region o.tx o.alignment) → PlacedAs b (region o.rx o.alignment) →
          (leb o.tx.end o.rx.begin || leb o.rx.end o.tx.begin) ≡ true → ◌≡◌ {A = Opened} (record { number = 0; unit = fresh o.alignment t r }) (opening o)
      unfolding opening open_number
      opens u v z =
          let c : t ≡ region o.tx o.alignment = rw q at u in
          let d : r ≡ region o.rx o.alignment = rw p at v in
          rw (← h, q, ← i, p, z, c, d)
