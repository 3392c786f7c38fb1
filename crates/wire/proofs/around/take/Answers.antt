use native.Mathlib.Omega.{arith}
use Rattle.wire.proofs.Wrapped.{taken_in_one, taken_in_two}
use Rattle.wire.proofs.around.take.Goals as goal

pub returns-then-k-m : goal.returns-then-k-m
returns-then-k-m c =
    rw (c.copy-then-k-m.ensures, c.copy.ensures) (taken_in_two _ _ _ _ _ _ _ (omega arith) (omega arith) (omega arith))

pub returns-else-k-m : goal.returns-else-k-m
returns-else-k-m c =
    rw c.copy-else-k-m.ensures (taken_in_one _ _ _ _ _ _ (omega arith))
