use mathlib.Core.Path.{refl}
use native.Mathlib.Nat.{div-mul-le_self}
use native.Mathlib.Omega.{arith}
use Rattle.region.specs.Layout.{round_down}
use Rattle.region.proofs.round_down.Goals as goal

pub overflow_mul-result : goal.overflow_mul-result
overflow_mul-result c = omega (arith, div-mul-le_self c.args.n c.args.a)

pub returns : goal.returns
unfolding round_down
returns c = (refl, div-mul-le_self c.args.n c.args.a)
