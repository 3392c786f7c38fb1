use Prim.Native.Nat.{◌≤◌}
use Rattle.tables.specs.Compact.{Kept, table_of}
use Rattle.tables.proofs.Loops.{Counted}
use Rattle.tables.proofs.free_blocks.Given as goal

abbrev pub invariant-loop-i : goal.invariant-loop-i
invariant-loop-i l = Counted (table_of l.t l.base.at) l.end l.free l.i × Kept l.t l.base.at l.i l.bits × (l.free ≤ l.i)
