-- Opening a unit (docs/RULES.md, U).
use Rattle.std.specs.Prelude.{ℕ, ◌-◌, ◌||◌, leb}
use Rattle.wire.specs.Choice.{check, passed}
use Rattle.region.specs.Layout.{plain}
use Rattle.unit.specs.declared.Bounds.{Bounds}
use Rattle.unit.specs.declared.Opening.{Opening}
use Rattle.unit.specs.declared.Region.{Region}
use Rattle.unit.specs.declared.Unit.{Unit}

-- the number of an opening, and the unit
pub record Opened : Type 0 where
  pub number : ℕ
  pub unit : Unit

-- the numbers of a region; its first byte, at the raw begin, is position 0
abbrev pub region : Bounds → ℕ → Region
region b a =
    record {
      length = b.end - b.begin;
      ring_offset = (plain b.begin b.end a).begin - b.begin;
      data_length = (plain b.begin b.end a).data_length;
    }

abbrev pub no_region : Region
no_region = record { length = 0; ring_offset = 0; data_length = 0 }

-- U1: the transmit region by 1, 3, 4, the receive region by 1, 3, 4, both by 5
unfoldable pub open_number : Opening → ℕ
open_number o =
    passed (plain o.tx.begin o.tx.end o.alignment).number
    (passed (plain o.rx.begin o.rx.end o.alignment).number
    (check (leb o.tx.end o.rx.begin || leb o.rx.end o.tx.begin) 5 0)
    (λ n. n))
    (λ n. n)

-- both own indexes are 0
abbrev pub fresh : ℕ → Region → Region → Unit
fresh a t r = record { alignment = a; tx = t; rx = r; write = 0; read = 0 }

abbrev pub fresh_of : Opening → Unit
fresh_of o = fresh o.alignment (region o.tx o.alignment) (region o.rx o.alignment)

-- U2: what a refused opening gives is closed, since its numbers are zero
abbrev pub closed_with : ℕ → Opened
closed_with n = record { number = n; unit = fresh 0 no_region no_region }

unfoldable pub opening : Opening → Opened
opening o = passed (open_number o) (record { number = 0; unit = fresh_of o }) closed_with
