-- A row: the 14 numbers that a script gives for its opening and for each record.
use Rattle.std.specs.Prelude.{ℕ, suc, ◌+◌, ◌*◌, ◌%◌, List, [], ◌∷◌, Result, Ok, Err, length, get_or}
use Rattle.refusal.specs.Numbers.{number_of}
use Rattle.refusal.specs.declared.Refusal.{Refusal}
use Rattle.blocks.specs.Tables.{free_blocks}
use Rattle.icbmsg.specs.Regions.{block_count}
use Rattle.icbmsg.specs.Outcome.{Given, nothing, a_length, dropped, a_run, control, delivery, Outcome}
use Rattle.icbmsg.specs.End.{End}
use Rattle.link.specs.declared.Place.{Place}

-- the values of what is given, and a number for it: what was dropped stands behind the length 0
abbrev pub values_of : Given → List ℕ
values_of nothing = []
values_of (a_length k) = k ∷ []
values_of (dropped n) = 0 ∷ n ∷ []
values_of (a_run s n) = s ∷ n ∷ []
values_of (control k a b) = k ∷ a ∷ b ∷ []
values_of (delivery a b k) = a ∷ b ∷ k ∷ []

abbrev pub given_number : Given → ℕ
given_number nothing = 0
given_number (a_length k) = 1
given_number (dropped n) = 1
given_number (a_run s n) = 2
given_number (control k a b) = 3
given_number (delivery a b k) = 4

-- what it tells of an answer: the number, how many values, four values (0 where there are fewer), a place, and what is given
abbrev pub reply_with : ℕ → List ℕ → ℕ → ℕ → ℕ → List ℕ
reply_with n vs b z g = n ∷ length vs ∷ get_or vs 0 0 ∷ get_or vs 1 0 ∷ get_or vs 2 0 ∷ get_or vs 3 0 ∷ b ∷ z ∷ g ∷ []

abbrev pub reply : ℕ → Given → ℕ → ℕ → List ℕ
reply n g b z = reply_with n (values_of g) b z (given_number g)

abbrev pub reply_of : Outcome → List ℕ
reply_of o = reply o.number o.given o.begin o.size

-- of a room or view, and how many bytes it has; a refusal has no place
abbrev pub placed_reply : Result Place Refusal → List ℕ
placed_reply (Ok p) = reply 0 nothing p.begin p.size
placed_reply (Err x) = reply (number_of x) nothing 0 0

abbrev pub size_at : Result Place Refusal → ℕ
size_at (Ok p) = p.size
size_at (Err x) = 0

-- every byte times its position plus 1, of bytes from position p on
unfoldable pub weighted : ℕ → List ℕ → ℕ
weighted p [] = 0
weighted p (b ∷ s) = b * suc p + weighted (suc p) s

abbrev pub sum : List ℕ → ℕ
sum s = weighted 0 s % 65521

-- a row: number, values and place, free transmit blocks and free receive blocks (a closed end has no blocks), a sum for each memory, and
-- what is given
abbrev pub row_of : List ℕ → End → List ℕ → List ℕ → List ℕ → List ℕ
row_of r e tx rx buffer =
    get_or r 0 0 ∷ get_or r 1 0 ∷ get_or r 2 0 ∷ get_or r 3 0 ∷ get_or r 4 0 ∷ get_or r 5 0 ∷ get_or r 6 0 ∷ get_or r 7 0
    ∷ free_blocks (block_count e.tx) e.sent ∷ free_blocks (block_count e.rx) e.held ∷ sum tx ∷ sum rx ∷ sum buffer ∷ get_or r 8 0 ∷ []
