use mathlib.Core.Path.{refl}
use Rattle.wire.specs.Bytes.{wrote}
use Rattle.panel.proofs.pull_on.Goals as goal

pub returns-in_err-ring-clause-region : goal.returns-in_err-ring-clause-region
unfolding wrote
returns-in_err-ring-clause-region c = rw c.in_err-ring.was refl

pub returns-in_err-ring-clause-buffer : goal.returns-in_err-ring-clause-buffer
unfolding wrote
returns-in_err-ring-clause-buffer c = rw c.in_err-ring.was refl
