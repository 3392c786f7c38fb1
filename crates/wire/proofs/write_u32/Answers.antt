use native.Mathlib.Nat.{add-zero, div-div-eq-div-mul}
use Rattle.wire.specs.Bytes.{little_endian, writes, wrote}
use Rattle.wire.proofs.write_u32.Goals as goal

pub returns : goal.returns
unfolding little_endian writes wrote
returns c = simp (c.to_le_bytes.ensures, add-zero, div-div-eq-div-mul)
