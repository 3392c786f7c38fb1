-- Number and unit of each answer of the code to an opening.
use Rattle.std.specs.Prelude.{ℕ, Result, Ok, Err, ◌≡◌}
use Rattle.refusal.specs.Numbers.{number_of}
use Rattle.refusal.specs.declared.Refusal.{Refusal}
use Rattle.unit.specs.Opening.{Opened, closed_with}
use Rattle.unit.specs.declared.Opened.{Opened as CodeOpened}
use Rattle.unit.specs.declared.Region.{Region}
use Rattle.unit.specs.declared.Unit.{Unit as CodeUnit}

abbrev pub opened_number : Result (Unit {0}) Refusal → ℕ
opened_number (Ok u) = 0
opened_number (Err x) = number_of x

abbrev pub opened_of : CodeOpened → Opened
opened_of o = record { number = opened_number o.answer; unit = o.unit }

-- of a unit alone: where there is none, the opening gives the closed one
abbrev pub made_of : Result CodeUnit Refusal → Opened
made_of (Ok u) = record { number = 0; unit = u }
made_of (Err x) = closed_with (number_of x)

-- of one region: the number, and the region where it is 0
abbrev pub placed_number : Result Region Refusal → ℕ
placed_number (Ok g) = 0
placed_number (Err x) = number_of x

abbrev pub PlacedAs : Result Region Refusal → Region → Type 0
PlacedAs (Ok g) h = g ≡ h
PlacedAs (Err x) h = Unit {0}
