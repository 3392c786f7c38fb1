-- The picker (docs/RULES.md, H).
use Rattle.std.specs.Prelude.{ℕ, ◌+◌, Bool, true, false, List, length, take, drop, Option, None, Some, Result, Ok, Err}
use Rattle.wire.specs.Choice.{pick}
use Rattle.refusal.specs.Numbers.{number_of}
use Rattle.sheet.specs.Sheets.{Part, nowhere, part, is_sheet, is_path, place_of}
use Rattle.refusal.specs.declared.Refusal.{Refusal}
use Rattle.sheet.specs.declared.Span.{Span}
use Rattle.sheet.specs.declared.Picked.{Picked}
use Rattle.sheet.specs.declared.Picked.TheVariants.{InHand, InIncoming}

-- The answer: a number, 0 where the path is found, whether in the incoming sheet, and the part's begin and size in that sheet.
pub record Outcome : Type 0 where
  pub number : ℕ
  pub incoming : Bool
  pub begin : ℕ
  pub size : ℕ

abbrev pub found : Bool → ℕ → List ℕ → Outcome
found i b v = record { number = 0; incoming = i; begin = b; size = length v }

-- a refusal has the empty part, where the hand-set sheet begins
abbrev pub refused : ℕ → Outcome
refused n = record { number = n; incoming = false; begin = 0; size = 0 }

-- "part of the hand-set sheet if the path is there, else part of the incoming one", 30 found in neither
abbrev pub first : Part → Part → Outcome
first (part b v) q = found false b v
first nowhere (part b v) = found true b v
first nowhere nowhere = refused 30

-- the checks in their order: `pick x a b` is a where x holds, else b
unfoldable pub pick_of : List ℕ → List ℕ → List ℕ → Outcome
pick_of hand incoming path =
    pick (is_path path)
    (pick (is_sheet hand)
    (pick (is_sheet incoming)
    (first (place_of hand path) (place_of incoming path))
    (refused 29))
    (refused 28))
    (refused 27)

-- ---- as the code has it

abbrev pub place_in : Part → Option Span
place_in nowhere = None
place_in (part b v) = Some (record { begin = b; size = length v })

abbrev pub outcome_of : Result Picked Refusal → Outcome
outcome_of (Ok (InHand b n)) = record { number = 0; incoming = false; begin = b; size = n }
outcome_of (Ok (InIncoming b n)) = record { number = 0; incoming = true; begin = b; size = n }
outcome_of (Err x) = refused (number_of x)

-- of what belongs to the two sheets, the one that belongs to the answer's
abbrev pub chosen {ℓ} : {A : Type ℓ} → Outcome → A → A → A
chosen o hand incoming = pick o.incoming incoming hand

-- the part's bytes, and the address at which it begins, from those of the two sheets
abbrev pub part_of : Outcome → List ℕ → List ℕ → List ℕ
part_of o hand incoming = take o.size (drop o.begin (chosen o hand incoming))

abbrev pub begin_of : Outcome → ℕ → ℕ → ℕ
begin_of o hand incoming = chosen o hand incoming + o.begin
