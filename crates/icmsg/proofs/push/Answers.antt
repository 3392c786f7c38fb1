use mathlib.Core.Path.{refl}
use native.Mathlib.Omega.{arith}
use Rattle.wire.specs.Bytes.{wrote}
use Rattle.icmsg.specs.Rules.{push_rule}
use Rattle.icmsg.proofs.Checks.{fit_refused, fit_accepted, refused_at}
use Rattle.icmsg.proofs.Indexes.{room_says}
use Rattle.icmsg.proofs.push.Goals as goal

pub put-requires : goal.put-requires
put-requires c =
    let h = room_says _ _ _ _ _ _ c.room.ensures c.in_ok-room.was in
    record { sound = h.0; content_len_bound = (h.1.short, omega (arith, h.1.fits)) }

pub returns-in_err-room : goal.returns-in_err-room
unfolding push_rule wrote
returns-in_err-room c = rw (fit_refused _ _ _ c.room.ensures _ c.in_err-room.was) (record { answer = refused_at _ _ c.from_residual.ensures.1; region = refl })

pub returns : goal.returns
unfolding push_rule
returns c = rw (fit_accepted _ _ _ c.room.ensures c.in_ok-room.was) (record { answer = rw c.put.ensures.packet; region = c.put.ensures.region })
