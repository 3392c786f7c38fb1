use Rattle.tables.specs.Compact.{held_at}
use Rattle.tables.proofs.is_held.Goals as goal

pub returns : goal.returns
unfolding held_at
returns c = rw c.bits_at.ensures
