use Prim.Native.Nat.{◌-◌, ◌%◌, ◌^◌, ◌≤◌, ◌<◌}
use mathlib.Core.Path.{◌≡◌}
use Rattle.tables.specs.Compact.{table_of}
use Rattle.tables.proofs.Loops.{Onward}
use Rattle.tables.proofs.search.Given as goal

abbrev pub invariant-loop-i : goal.invariant-loop-i
invariant-loop-i l = (l.turns ≡ l.i) × Onward (table_of l.t l.base) l.block_count l.n l.run l.i × (l.m ≡ 2 ^ (l.i % 8)) × (l.run ≤ l.i) × (l.run < l.n) × (l.i ≤ l.block_count)

abbrev pub decreases-loop-i : goal.decreases-loop-i
decreases-loop-i l = l.block_count - l.turns
