use mathlib.Core.Path.{refl}
use native.Mathlib.Omega.{arith}
use Rattle.icmsg.specs.Ring.{packet_length}
use Rattle.icmsg.proofs.packet_length.Goals as goal

pub returns : goal.returns
unfolding packet_length
returns c = (refl, omega arith, omega arith)
