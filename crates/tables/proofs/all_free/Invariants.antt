use Prim.Native.Nat.{◌-◌}
use mathlib.Core.Bool.{true}
use mathlib.Core.Path.{◌≡◌}
use Rattle.blocks.specs.Tables.{all_free}
use Rattle.tables.specs.Compact.{Kept, table_of}
use Rattle.tables.proofs.all_free.Given as goal

abbrev pub invariant-loop-i : goal.invariant-loop-i
invariant-loop-i l = (all_free (table_of l.t l.base.at) l.s (l.i - l.s) ≡ true) × Kept l.t l.base.at l.i l.bits
