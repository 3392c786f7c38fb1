use Rattle.wire.proofs.Positions.{wrote-append}
use Rattle.icmsg.specs.Ring.{behind}
use Rattle.icmsg.specs.Rules.{push_writes}
use Rattle.icmsg.proofs.put.Goals as goal

pub returns : goal.returns
unfolding behind push_writes
returns c =
    record { packet = rw (← c.packet_length.ensures.0, ← c.moved-next.ensures.0); region = rw (c.write_u32.ensures, c.put_packet.ensures, wrote-append, ← c.packet_length.ensures.0, ← c.moved-next.ensures.0) }
