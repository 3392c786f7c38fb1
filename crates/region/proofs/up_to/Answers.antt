use native.Mathlib.Nat.{mod-lt}
use native.Mathlib.Omega.{arith}
use Rattle.region.proofs.Checks.{up_is}
use Rattle.region.proofs.up_to.Goals as goal

pub overflow_sub-result : goal.overflow_sub-result
overflow_sub-result c = omega (arith, mod-lt c.args.n c.requires)

pub returns : goal.returns
returns c = (up_is c.args.a c.args.n c.requires, mod-lt _ c.requires)
