use mathlib.Core.Bool.{true}
use mathlib.Core.Path.{◌≡◌, sym, ◌∙◌}
use borrow.Author.Tests.{eqb-true}
use lib.ListN.{length}
use Rattle.wire.proofs.Choices.{both}
use Rattle.icbmsg.specs.Ends.{open_numbers, whole}
use Rattle.link.specs.Answers.{end_of}
use Rattle.checks.proofs.OpenSays.{not_whole, is_whole}
use Rattle.link.proofs.ArrivalCalls.{arrival_6, arrival_past_6}
use Rattle.link.proofs.End.arrival.Goals as goal
use Rattle.link.proofs.End.arrival.Goals.{Else-not-is_whole}

lent : (c : Else-not-is_whole) → let e = end_of c.args.self.now in whole e e.rx (length c.args.rx.now) ≡ true
lent c = let e = end_of c.args.self.now in is_whole e e.rx (length c.args.rx.now) _ c.is_whole.ensures c.if-not-is_whole.false

opened : (c : Else-not-is_whole) → let n = c.args.self.now.numbers in (open_numbers n.alignment n.tx n.rx n.write n.read ≡ true) × (length c.args.rx.now ≡ n.rx.length)
opened c =
    let w = both _ _ (sym c.is_whole.ensures ∙ c.if-not-is_whole.false) in
    (w.0, eqb-true (length c.args.rx.now) c.args.self.now.numbers.rx.length w.1)

pub returns-then-not-is_whole : goal.returns-then-not-is_whole
returns-then-not-is_whole c = let e = end_of c.args.self.now in arrival_6 e c.args.rx.now c.args.message.now (not_whole e e.rx (length c.args.rx.now) _ c.is_whole.ensures c.if-not-is_whole.true)

pub data_sent-requires : goal.data_sent-requires
data_sent-requires c = opened (goal.at.data_sent-requires c).Else-not-is_whole

pub data_released-requires : goal.data_released-requires
data_released-requires c = (opened (goal.at.data_released-requires c).Else-not-is_whole).0

pub binding_sent-requires : goal.binding_sent-requires
binding_sent-requires c = opened (goal.at.binding_sent-requires c).Else-not-is_whole

pub binding_released-requires : goal.binding_released-requires
binding_released-requires c = (opened (goal.at.binding_released-requires c).Else-not-is_whole).0

pub returns-in-TooShort : goal.returns-in-TooShort
returns-in-TooShort c = arrival_past_6 (end_of c.args.self.now) c.args.rx.now c.args.message.now (lent (goal.at.returns-in-TooShort c).Else-not-is_whole) _ (sym c.decode.ensures ∙ c.in-TooShort.is)

pub returns-in-UnknownKind : goal.returns-in-UnknownKind
returns-in-UnknownKind c = arrival_past_6 (end_of c.args.self.now) c.args.rx.now c.args.message.now (lent (goal.at.returns-in-UnknownKind c).Else-not-is_whole) _ (sym c.decode.ensures ∙ c.in-UnknownKind.is)

pub returns-in-DataSent : goal.returns-in-DataSent
returns-in-DataSent c = c.data_sent.ensures ∙ arrival_past_6 (end_of c.args.self.now) c.args.rx.now c.args.message.now (lent (goal.at.returns-in-DataSent c).Else-not-is_whole) _ (sym c.decode.ensures ∙ c.in-DataSent.is)

pub returns-in-DataReleased : goal.returns-in-DataReleased
returns-in-DataReleased c = c.data_released.ensures ∙ arrival_past_6 (end_of c.args.self.now) c.args.rx.now c.args.message.now (lent (goal.at.returns-in-DataReleased c).Else-not-is_whole) _ (sym c.decode.ensures ∙ c.in-DataReleased.is)

pub returns-in-BindingSent : goal.returns-in-BindingSent
returns-in-BindingSent c = c.binding_sent.ensures ∙ arrival_past_6 (end_of c.args.self.now) c.args.rx.now c.args.message.now (lent (goal.at.returns-in-BindingSent c).Else-not-is_whole) _ (sym c.decode.ensures ∙ c.in-BindingSent.is)

pub returns-in-BindingReleased : goal.returns-in-BindingReleased
returns-in-BindingReleased c = c.binding_released.ensures ∙ arrival_past_6 (end_of c.args.self.now) c.args.rx.now c.args.message.now (lent (goal.at.returns-in-BindingReleased c).Else-not-is_whole) _ (sym c.decode.ensures ∙ c.in-BindingReleased.is)
