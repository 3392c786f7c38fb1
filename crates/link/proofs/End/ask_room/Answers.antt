use mathlib.Core.Path.{◌≡◌, ap, ◌∙◌}
use Rattle.std.specs.Prelude.{Err}
use Rattle.std.proofs.Common.{rules}
use Rattle.icbmsg.specs.Outcome.{without_place}
use Rattle.icbmsg.specs.Messages.{room_question}
use Rattle.checks.specs.Parts.{joined}
use Rattle.link.proofs.MessageCalls.{asked_no, asked_yes}
use Rattle.link.proofs.End.ask_room.Goals as goal

pub returns-in_err-room_place : goal.returns-in_err-room_place
unfolding room_question
returns-in_err-room_place c = λ ps bs.
    let e = c.args.self.now in
    let r : c.from_residual.result ≡ Err c.in_err-room_place.field-0.0 = search rules in
    rw r (asked_no _ (joined e.numbers e.tables ps bs) _ c.in_err-room_place.was ∙ ap without_place (c.room_place.ensures ps bs))

pub returns : goal.returns
unfolding room_question
returns c = λ ps bs. let e = c.args.self.now in asked_yes _ (joined e.numbers e.tables ps bs) _ c.in_ok-room_place.was ∙ ap without_place (c.room_place.ensures ps bs)
