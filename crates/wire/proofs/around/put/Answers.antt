use mathlib.Core.Path.{refl}
use native.Mathlib.Omega.{arith}
use Rattle.wire.proofs.Wrapped.{put_in_one, put_in_two}
use Rattle.wire.proofs.around.put.Goals as goal

pub returns-then-k-src : goal.returns-then-k-src
returns-then-k-src c =
    rw (c.copy-then-k-src.ensures, c.copy.ensures) (put_in_two _ _ _ _ _ _ _ (omega arith) (omega arith) (omega arith) refl)

pub returns-else-k-src : goal.returns-else-k-src
returns-else-k-src c = rw c.copy-else-k-src.ensures (put_in_one _ _ _ _ _ _ (omega arith) (omega arith))
