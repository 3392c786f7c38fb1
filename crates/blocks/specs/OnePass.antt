-- The search for a run of free blocks, turn by turn (docs/RULES.md, B10). It is a reading tree: it sees a block only by looking at it, so that
-- the blocks that it looks at can be stated.
use Rattle.std.specs.Prelude.{ℕ, zero, suc, ◌+◌, ◌-◌, ◌≤◌, ◌≡◌, List, [], ◌∷◌, eqb}
use Rattle.wire.specs.Choice.{pick}
use Rattle.wire.specs.Bytes.{straight, positions}
use Rattle.wire.specs.Reads.{Reads, gives, reads, answer, positions_read}
use Rattle.blocks.specs.Search.{Search, nowhere, found_at}
use Rattle.blocks.specs.Tables.{use_number, free_run}
use Rattle.blocks.specs.declared.Entry.{Entry}

-- what a look at each block of a table sees: the number of its use, 0 for a free one
unfoldable pub uses : List Entry → List ℕ
uses [] = []
uses (x ∷ t) = use_number x.usage ∷ uses t

-- A search for n free blocks that has come to block i. The last `run` blocks before it are free, and f are left to look at. A turn looks at block
-- i; at a held one the search goes on just behind it.
unfoldable pub searching_from : ℕ → ℕ → ℕ → ℕ → Reads Search
searching_from n zero run i = gives nowhere
searching_from n (suc f) run i =
    reads i (λ seen. pick (eqb 0 seen) (pick (eqb (suc run) n) (gives (found_at (suc i - n))) (searching_from n f (suc run) (suc i))) (searching_from n f 0 (suc i)))

-- among the first c blocks
abbrev pub searching : ℕ → ℕ → Reads Search
searching c n = searching_from n c 0 0

-- the blocks that it looks at in a table, one a turn, in this order
abbrev pub looked : ℕ → List Entry → ℕ → List ℕ
looked c t n = positions_read (searching c n) (uses t)

-- the turns to the last block of the run that is found, or to the last of all
abbrev pub turns_to : ℕ → ℕ → Search → ℕ
turns_to c n nowhere = c
turns_to c n (found_at s) = s + n

-- What a search of a table's first c blocks for n free ones found, and in how many turns: the lowest run. Each block from 0 on is looked at once,
-- in order, as many as there are turns. The last one is that of the run's last block, or of the last of all; they are no more than c.
pub record OnePass (c : ℕ) (t : List Entry) (n : ℕ) (found : Search) (turns : ℕ) : Type 0 where
  pub lowest : found ≡ free_run c t n
  pub searched : found ≡ answer (searching c n) (uses t)
  pub in_order : looked c t n ≡ positions (straight 0) turns
  pub ends : turns ≡ turns_to c n found
  pub most : turns ≤ c
