use borrow.Author.Rules.{rules}
use mathlib.Core.Path.{refl, sym, ap, ◌∙◌}
use native.Mathlib.Omega.{arith}
use lib.ListN.{length}
use Rattle.wire.specs.Reads.{answer}
use Rattle.icbmsg.specs.Outcome.{Outcome, without_writes}
use Rattle.icbmsg.specs.Messages.{reserve_of, send_rule, drop_of, done_rule}
use Rattle.icbmsg.specs.Rings.{start_of, push_rule}
use Rattle.icbmsg.specs.End.{End}
use Rattle.link.specs.Answers.{end_of}
use Rattle.script.specs.Records.{call_body}
use Rattle.script.specs.declared.kinds.Kind.TheVariants.{Call}
use Rattle.script.proofs.WholeEnds.{on_tables, pushed_on, on_numbers, ran, ran_writing, ring_ran}
use Rattle.script.proofs.MemoryAfter.{quiet_as, sent_as, pulled_in, room_as, room_quiet, view_quiet, register-writes, send-writes, done-writes, push-writes, start-writes, pull-writes}
use Rattle.script.proofs.CallKinds.{arrives, registers, pushes, starts, pulls, reserves, drops, ends, rooms, views, sends, asks_room, asks_view, exactly}
use Rattle.script.proofs.Places.{room_next, view-next}
use Rattle.script.proofs.calls.call.Goals as goal

pub returns-in-Arrival : goal.returns-in-Arrival
returns-in-Arrival c =
    let e = end_of c.args.end.now in let b = c.args.body.now in let tx = c.args.tx.now in let rx = c.args.rx.now in let u = c.args.buffer.now in
    let k = c.in-Arrival.is in
    let o = c.arrival.ensures ∙ arrives e b tx rx u in
    rw k (record { answer = ran _ _ _ _ c.answered.ensures o; memory = quiet_as _ o tx rx u (refl, refl, refl) })

pub returns-in-Register : goal.returns-in-Register
returns-in-Register c =
    let e = end_of c.args.end.now in let b = c.args.body.now in let tx = c.args.tx.now in let rx = c.args.rx.now in let u = c.args.buffer.now in
    let k = c.in-Register.is in
    let o = registers e b tx rx u in
    rw k (record { answer = ran_writing _ _ _ _ c.answered-in-Register.ensures (c.register.ensures.answer ∙ ap without_writes o); memory = sent_as _ o tx rx u _ c.register.ensures.tx (register-writes e tx b) })

pub returns-in-Reserve : goal.returns-in-Reserve
returns-in-Reserve c =
    let e = end_of c.args.end.now in let b = c.args.body.now in let tx = c.args.tx.now in let rx = c.args.rx.now in let u = c.args.buffer.now in
    let k = c.in-Reserve.is in
    let o = on_tables (λ e. reserve_of e c.read_u32.result) c.args.end.now c.reserve.new.self _ c.reserve.ensures.answer c.reserve.ensures.others ∙ reserves e b tx rx u _ c.read_u32.ensures in
    rw k (record { answer = ran _ _ _ _ c.answered-in-Reserve.ensures o; memory = quiet_as _ o tx rx u (refl, refl, refl) })

pub returns-in-Send : goal.returns-in-Send
returns-in-Send c =
    let e = end_of c.args.end.now in let b = c.args.body.now in let tx = c.args.tx.now in let rx = c.args.rx.now in let u = c.args.buffer.now in
    let k = c.in-Send.is in
    let f : End → Outcome = λ x. answer (send_rule x (length tx) c.read_u32-start.result c.read_u32-to.result c.read_u32-k.result) tx in
    let o = sends e b tx rx u _ c.read_u32-start.ensures _ c.read_u32-to.ensures _ c.read_u32-k.ensures in
    let h = pushed_on (λ x. without_writes (f x)) c.args.end.now c.send.new.self _ c.send.ensures.answer c.send.ensures.others in
    rw k (record { answer = ran_writing _ _ _ _ c.answered-in-Send.ensures (h ∙ ap without_writes o); memory = sent_as _ o tx rx u _ (c.send.ensures.tx c.args.end.now.bindings) (send-writes e tx _ _ _) })

pub returns-in-Drop : goal.returns-in-Drop
returns-in-Drop c =
    let e = end_of c.args.end.now in let b = c.args.body.now in let tx = c.args.tx.now in let rx = c.args.rx.now in let u = c.args.buffer.now in
    let k = c.in-Drop.is in
    let o = on_tables (λ e. drop_of e c.read_u32-in-Drop.result) c.args.end.now c.drop.new.self _ c.drop.ensures.answer c.drop.ensures.others ∙ drops e b tx rx u _ c.read_u32-in-Drop.ensures in
    rw k (record { answer = ran _ _ _ _ c.answered-in-Drop.ensures o; memory = quiet_as _ o tx rx u (refl, refl, refl) })

pub returns-in-Done : goal.returns-in-Done
returns-in-Done c =
    let e = end_of c.args.end.now in let b = c.args.body.now in let tx = c.args.tx.now in let rx = c.args.rx.now in let u = c.args.buffer.now in
    let k = c.in-Done.is in
    let f : End → Outcome = λ x. answer (done_rule x (length tx) c.read_u32-in-Done.result) tx in
    let o = ends e b tx rx u _ c.read_u32-in-Done.ensures in
    let h = pushed_on (λ x. without_writes (f x)) c.args.end.now c.done.new.self _ (c.done.ensures.answer c.args.end.now.endpoints) c.done.ensures.others in
    rw k (record { answer = ran_writing _ _ _ _ c.answered-in-Done.ensures (h ∙ ap without_writes o); memory = sent_as _ o tx rx u _ (c.done.ensures.tx c.args.end.now.endpoints c.args.end.now.bindings) (done-writes e tx _) })

pub returns-in-Push : goal.returns-in-Push
returns-in-Push c =
    let e = end_of c.args.end.now in let b = c.args.body.now in let tx = c.args.tx.now in let rx = c.args.rx.now in let u = c.args.buffer.now in
    let k = c.in-Push.is in
    let o = pushes e b tx rx u in
    let h = on_numbers (λ x. without_writes (answer (push_rule x (length tx) b) tx)) c.args.end.now c.push.new.self _ c.push.ensures.answer c.push.ensures.others in
    rw k (record { answer = ring_ran _ _ _ _ c.ring_answered.ensures (h ∙ ap without_writes o); memory = sent_as _ o tx rx u _ (c.push.ensures.tx c.args.end.now.tables c.args.end.now.endpoints c.args.end.now.bindings) (push-writes e tx b) })

pub returns-in-Start : goal.returns-in-Start
returns-in-Start c =
    let e = end_of c.args.end.now in let b = c.args.body.now in let tx = c.args.tx.now in let rx = c.args.rx.now in let u = c.args.buffer.now in
    let k = c.in-Start.is in
    let o = starts e b tx rx u in
    let h = on_numbers (λ x. without_writes (start_of x (length tx))) c.args.end.now c.start.new.self _ c.start.ensures.answer c.start.ensures.others in
    rw k (record { answer = ring_ran _ _ _ _ c.ring_answered-in-Start.ensures (h ∙ ap without_writes o); memory = sent_as _ o tx rx u _ (c.start.ensures.tx c.args.end.now.tables c.args.end.now.endpoints c.args.end.now.bindings) (start-writes e tx) })

pub returns-in-Pull : goal.returns-in-Pull
returns-in-Pull c =
    let e = end_of c.args.end.now in let b = c.args.body.now in let tx = c.args.tx.now in let rx = c.args.rx.now in let u = c.args.buffer.now in
    let k = c.in-Pull.is in
    let o = pulls e b tx rx u _ c.read_u16.ensures.0 in
    rw k (record { answer = rw (← o) c.pull.ensures.answer; memory = pulled_in _ o tx rx u _ _ (pull-writes e rx _) c.pull.ensures.rx c.pull.ensures.buffer })

pub returns-in-Room : goal.returns-in-Room
returns-in-Room c =
    let e = end_of c.args.end.now in let b = c.args.body.now in let tx = c.args.tx.now in let rx = c.args.rx.now in let u = c.args.buffer.now in
    let k = c.in-Room.is in
    let o = rooms e b tx rx u _ c.read_u32-in-Room.ensures in
    rw k (record { answer = rw (← o) (record { reply = c.room.ensures; end = sym (room_next e (length tx) c.read_u32-in-Room.result) }); memory = room_as _ o tx rx u _ refl (search rules) (room_quiet e _ _) })

pub returns-in-View : goal.returns-in-View
returns-in-View c =
    let e = end_of c.args.end.now in let b = c.args.body.now in let tx = c.args.tx.now in let rx = c.args.rx.now in let u = c.args.buffer.now in
    let k = c.in-View.is in
    let o = views e b tx rx u _ c.read_u32-in-View.ensures in
    rw k (record { answer = rw (← o) (record { reply = c.view.ensures; end = sym (view-next e (length rx) c.read_u32-in-View.result) }); memory = quiet_as _ o tx rx u (view_quiet e _ _) })

pub returns-in-RoomQuestion : goal.returns-in-RoomQuestion
returns-in-RoomQuestion c =
    let e = end_of c.args.end.now in let b = c.args.body.now in let tx = c.args.tx.now in let rx = c.args.rx.now in let u = c.args.buffer.now in
    let k = c.in-RoomQuestion.is in
    let o = c.ask_room.ensures c.args.end.now.endpoints c.args.end.now.bindings ∙ asks_room e b tx rx u _ c.read_u32-in-RoomQuestion.ensures _ c.read_u32-lent.ensures in
    rw k (record { answer = ran _ _ _ _ c.answered-in-RoomQuestion.ensures o; memory = quiet_as _ o tx rx u (refl, refl, refl) })

pub returns-in-ViewQuestion : goal.returns-in-ViewQuestion
returns-in-ViewQuestion c =
    let e = end_of c.args.end.now in let b = c.args.body.now in let tx = c.args.tx.now in let rx = c.args.rx.now in let u = c.args.buffer.now in
    let k = c.in-ViewQuestion.is in
    let o = c.ask_view.ensures c.args.end.now.endpoints c.args.end.now.bindings ∙ asks_view e b tx rx u _ c.read_u32-in-ViewQuestion.ensures _ c.read_u32-lent-in-ViewQuestion.ensures in
    rw k (record { answer = ran _ _ _ _ c.answered-in-ViewQuestion.ensures o; memory = quiet_as _ o tx rx u (refl, refl, refl) })

pub read_u32-requires : goal.read_u32-requires
read_u32-requires c = omega (arith, exactly (Call c.args.kind) (length c.args.body.now) 4 c.requires (ap call_body c.in-Reserve.is))

pub read_u32-start-requires : goal.read_u32-start-requires
read_u32-start-requires c = omega (arith, exactly (Call c.args.kind) (length c.args.body.now) 12 c.requires (ap call_body c.in-Send.is))

pub read_u32-to-requires : goal.read_u32-to-requires
read_u32-to-requires c = omega (arith, exactly (Call c.args.kind) (length c.args.body.now) 12 c.requires (ap call_body c.in-Send.is))

pub read_u32-k-requires : goal.read_u32-k-requires
read_u32-k-requires c = omega (arith, exactly (Call c.args.kind) (length c.args.body.now) 12 c.requires (ap call_body c.in-Send.is))

pub read_u32-requires-in-Drop : goal.read_u32-requires-in-Drop
read_u32-requires-in-Drop c = omega (arith, exactly (Call c.args.kind) (length c.args.body.now) 4 c.requires (ap call_body c.in-Drop.is))

pub read_u32-requires-in-Done : goal.read_u32-requires-in-Done
read_u32-requires-in-Done c = omega (arith, exactly (Call c.args.kind) (length c.args.body.now) 4 c.requires (ap call_body c.in-Done.is))

pub read_u16-requires : goal.read_u16-requires
read_u16-requires c = omega (arith, exactly (Call c.args.kind) (length c.args.body.now) 2 c.requires (ap call_body c.in-Pull.is))

pub read_u32-requires-in-Room : goal.read_u32-requires-in-Room
read_u32-requires-in-Room c = omega (arith, exactly (Call c.args.kind) (length c.args.body.now) 4 c.requires (ap call_body c.in-Room.is))

pub read_u32-requires-in-View : goal.read_u32-requires-in-View
read_u32-requires-in-View c = omega (arith, exactly (Call c.args.kind) (length c.args.body.now) 4 c.requires (ap call_body c.in-View.is))

pub read_u32-lent-requires : goal.read_u32-lent-requires
read_u32-lent-requires c = omega (arith, exactly (Call c.args.kind) (length c.args.body.now) 8 c.requires (ap call_body c.in-RoomQuestion.is))

pub read_u32-requires-in-RoomQuestion : goal.read_u32-requires-in-RoomQuestion
read_u32-requires-in-RoomQuestion c = omega (arith, exactly (Call c.args.kind) (length c.args.body.now) 8 c.requires (ap call_body c.in-RoomQuestion.is))

pub read_u32-lent-requires-in-ViewQuestion : goal.read_u32-lent-requires-in-ViewQuestion
read_u32-lent-requires-in-ViewQuestion c = omega (arith, exactly (Call c.args.kind) (length c.args.body.now) 8 c.requires (ap call_body c.in-ViewQuestion.is))

pub read_u32-requires-in-ViewQuestion : goal.read_u32-requires-in-ViewQuestion
read_u32-requires-in-ViewQuestion c = omega (arith, exactly (Call c.args.kind) (length c.args.body.now) 8 c.requires (ap call_body c.in-ViewQuestion.is))
