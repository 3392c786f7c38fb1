-- What is told of a search, as one number.
use Rattle.std.specs.Prelude.{ℕ, suc, ◌+◌, ◌*◌, List, [], ◌∷◌, eqb, leb, length}
use Rattle.wire.specs.Choice.{pick}
use Rattle.blocks.specs.Search.{all, Search, nowhere, found_at}
use Rattle.blocks.specs.Tables.{free_run}
use Rattle.blocks.specs.OnePass.{turns_to}
use Rattle.tables.specs.Compact.{table_of}

-- the start counted from 1, or 0
abbrev pub start_number : Search → ℕ
start_number nowhere = 0
start_number (found_at s) = suc s

-- in the high half where the run starts, in the low half the turns
abbrev pub told : ℕ → ℕ → Search → ℕ
told c n found = 65536 * start_number found + turns_to c n found

-- of the transmit table in the bytes of both; 0 where these are not both tables, have not so many blocks, or no block is asked for
unfoldable pub search_number : List ℕ → ℕ → ℕ → ℕ
search_number s c n = pick (all (eqb (length s) 3136 ∷ leb c 256 ∷ leb 1 n ∷ [])) (told c n (free_run c (table_of s 0) n)) 0
