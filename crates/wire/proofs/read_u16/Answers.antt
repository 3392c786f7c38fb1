use native.Mathlib.Nat.{add-zero}
use native.Mathlib.Omega.{arith}
use Rattle.wire.specs.Bytes.{from_little_endian, bytes}
use Rattle.wire.proofs.read_u16.Goals as goal

pub returns : goal.returns
unfolding from_little_endian bytes
returns c = simp add-zero (let e = c.from_le_bytes.ensures in omega arith, omega arith)
