use native.Mathlib.Nat.{mod-lt}
use Rattle.region.proofs.Checks.{down_is}
use Rattle.region.proofs.past.Goals as goal

pub returns : goal.returns
returns c = (down_is c.args.a c.args.n, mod-lt c.args.n c.requires)
