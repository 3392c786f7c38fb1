use Prim.Native.Nat.{◌+◌}
use lib.ListN.{length}
use Rattle.wire.specs.Bytes.{bytes}
use Rattle.wire.proofs.Positions.{bytes-all}
use Rattle.blocks.proofs.BindingMessage.{written_in_three}
use Rattle.blocks.proofs.framing.write_binding.Goals as goal

pub returns : goal.returns
unfolding bytes
returns c =
    let a = c.args in
    written_in_three a.tx.now _ _ a.p (length a.name.now + 1) a.name.now _ c.write_u32.ensures c.copy.ensures (bytes-all a.name.now)
