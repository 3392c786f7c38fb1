use borrow.Author.Tests.{lt-ltb, le-ltb}
use Rattle.region.specs.Layout.{are_bounds}
use Rattle.region.proofs.are_bounds.Goals as goal

pub returns-then-begin-end : goal.returns-then-begin-end
unfolding are_bounds
returns-then-begin-end c = rw (lt-ltb _ _ c.if-begin-end.true)

pub returns-else-begin-end : goal.returns-else-begin-end
unfolding are_bounds
returns-else-begin-end c = rw (le-ltb _ _ c.if-begin-end.false)
