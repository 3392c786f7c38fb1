use mathlib.Core.Path.{sym}
use native.Mathlib.Nat.{mod-eq_of_lt}
use native.Mathlib.Omega.{arith}
use Rattle.wire.proofs.Wrapped.{mod_past}
use Rattle.wire.proofs.around.moved.Goals as goal

pub returns-then-e-n : goal.returns-then-e-n
returns-then-e-n c = (sym (mod-eq_of_lt c.if-e-n.true), omega arith)

pub returns-else-e-n : goal.returns-else-e-n
returns-else-e-n c = (sym (mod_past _ _ c.if-e-n.false (omega arith)), omega arith)
