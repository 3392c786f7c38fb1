-- Answers on plain numbers (docs/RULES.md, C).
use Rattle.std.specs.Prelude.{ℕ, Bool, true, false, List, [], ◌∷◌, length, take}
use Rattle.wire.specs.Bytes.{straight, writes, wrote}
use Rattle.region.specs.Layout.{Outcome}
use Rattle.icmsg.specs.Rules.{Answer, length_in, dropped_in, index_after}
use Rattle.sheet.specs.Picks.{Outcome as Pick}

-- the caller's numbers s after an answer: as many of the answer's as fit, and the rest of s as it was
unfoldable pub answered : List ℕ → List ℕ → List ℕ
answered s numbers = wrote s (writes (straight 0) (take (length s) numbers))

-- the five numbers of a layout
abbrev pub layout_numbers : Outcome → List ℕ
layout_numbers y = y.begin ∷ y.data_length ∷ y.blocks_begin ∷ y.block_size ∷ y.end ∷ []

-- the three numbers of a ring call's answer: the length, the own index, which was own before, and how many bytes were dropped
abbrev pub ring_numbers : ℕ → Answer → List ℕ
ring_numbers own a = length_in a ∷ index_after own a ∷ dropped_in a ∷ []

-- the number of a yes or no
abbrev pub yes_number : Bool → ℕ
yes_number true = 1
yes_number false = 0

-- the three numbers of a pick's answer: 1 for the incoming sheet, the part's begin in its sheet, and its size
abbrev pub pick_numbers : Pick → List ℕ
pick_numbers o = yes_number o.incoming ∷ o.begin ∷ o.size ∷ []
