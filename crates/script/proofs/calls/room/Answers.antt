use mathlib.Core.Path.{◌∙◌}
use lib.ListN.{length}
use Rattle.icbmsg.specs.Messages.{room_of}
use Rattle.link.specs.Answers.{end_of}
use Rattle.link.proofs.MessageCalls.{room-inside}
use Rattle.script.proofs.Places.{part-size, part-reply}
use Rattle.script.proofs.calls.room.Goals as goal

pub placed-requires : goal.placed-requires
placed-requires c =
    let e = c.args.end.now in
    part-size c.room_place-place.result (end_of e) (room_of (end_of e) (length c.args.tx.now) c.args.start) (c.room_place-place.ensures e.endpoints e.bindings) c.args.tx.now _ (room-inside (end_of e) (length c.args.tx.now) c.args.start) (c.room-size.ensures.bytes e.endpoints e.bindings)

pub returns : goal.returns
returns c =
    let e = c.args.end.now in
    c.placed.ensures ∙ part-reply c.room_place-place.result (end_of e) (room_of (end_of e) (length c.args.tx.now) c.args.start) (c.room_place-place.ensures e.endpoints e.bindings) c.args.tx.now _ (room-inside (end_of e) (length c.args.tx.now) c.args.start) (c.room-size.ensures.bytes e.endpoints e.bindings)
