use mathlib.Core.Path.{refl}
use Rattle.wire.specs.Bytes.{wrote}
use Rattle.panel.proofs.push_on.Goals as goal

pub returns-in_err-ring-clause-region : goal.returns-in_err-ring-clause-region
unfolding wrote
returns-in_err-ring-clause-region c = rw c.in_err-ring.was refl
