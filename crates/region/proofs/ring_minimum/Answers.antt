use native.Mathlib.Omega.{arith}
use Rattle.region.specs.Layout.{ring_minimum}
use Rattle.region.proofs.ring_minimum.Goals as goal

pub returns : goal.returns
unfolding ring_minimum
returns c = omega arith
