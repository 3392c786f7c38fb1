use native.Mathlib.Omega.{arith}
use Rattle.icmsg.proofs.Packets.{last_fours, packet_put}
use Rattle.icmsg.proofs.put_packet.Goals as goal

pub write_u32-requires : goal.write_u32-requires
write_u32-requires c =
    omega (arith, last_fours _ _ _ _ _ c.requires.sound.data_fours c.requires.sound.fours c.packet_length.ensures.0 c.moved-last.ensures.0)

pub returns : goal.returns
returns c =
    packet_put _ _ _ _ _ _ _ _ _ _ _ c.requires.sound.data_fours c.requires.sound.fours c.requires.sound.below c.requires.content_len_bound.0 c.packet_length.ensures.0 c.packet_length.ensures.1 c.packet_length.ensures.2 (omega arith)
    c.moved-last.ensures.0 c.write_u32.ensures c.write_u32-2.ensures c.moved.ensures.0 c.put.ensures
