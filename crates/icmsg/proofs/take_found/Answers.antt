use mathlib.Core.Path.{refl}
use Rattle.wire.specs.Bytes.{writes, wrote}
use Rattle.icmsg.specs.Rules.{read_to}
use Rattle.icmsg.proofs.Pulls.{take_flat}
use Rattle.icmsg.proofs.take_found.Goals as goal

pub returns-in-Found : goal.returns-in-Found
returns-in-Found c =
    rw (c.in-Found.is, take_flat) (record { answer = rw c.take.ensures.packet; region = c.take.ensures.region; buffer = c.take.ensures.buffer })

pub returns-in-Broken : goal.returns-in-Broken
unfolding read_to writes wrote
returns-in-Broken c =
    rw c.in-Broken.is (record { answer = refl; region = c.write_u32.ensures; buffer = refl })
