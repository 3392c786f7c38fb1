-- Where a turn of the search leads.
use Prim.Native.Nat.{ℕ, suc, ◌-◌}
use mathlib.Core.Bool.{Bool}
use lib.Dec.{eqb}
use Rattle.wire.specs.Choice.{pick}
use Rattle.wire.specs.Reads.{Reads, gives}
use Rattle.blocks.specs.Search.{Search, found_at}
use Rattle.blocks.specs.OnePass.{searching_from}

-- where a turn leads, by whether its block is free
abbrev pub onward : ℕ → ℕ → ℕ → ℕ → Bool → Reads Search
onward n f run i b = pick b (pick (eqb (suc run) n) (gives (found_at (suc i - n))) (searching_from n f (suc run) (suc i))) (searching_from n f 0 (suc i))
