use Rattle.icmsg.specs.Ring.{behind}
use Rattle.icmsg.specs.Rules.{read_to}
use Rattle.wire.proofs.Wrapped.{wrapped_mod}
use Rattle.icmsg.proofs.take.Goals as goal

pub returns : goal.returns
unfolding behind read_to
returns c =
    record { packet = rw (← c.packet_length.ensures.0, ← c.moved-next.ensures.0); region = rw (c.write_u32.ensures, ← c.packet_length.ensures.0, ← c.moved-next.ensures.0); buffer = rw (c.take.ensures, c.moved.ensures.0, wrapped_mod, c.min-n.ensures) }
