use Prim.Native.Nat.{ℕ}
use mathlib.Core.Bool.{true}
use mathlib.Core.List.{List}
use mathlib.Core.Path.{◌≡◌, refl, sym, ap, ◌∙◌}
use lib.ListN.{length}
use Rattle.wire.specs.Bytes.{wrote}
use Rattle.icmsg.specs.declared.Ring.{Ring}
use Rattle.icmsg.proofs.Indexes.{refusals}
use Rattle.endpoints.specs.declared.Endpoint.{Endpoint}
use Rattle.endpoints.specs.declared.Binding.{Binding}
use Rattle.icbmsg.specs.Outcome.{Outcome, without_writes}
use Rattle.checks.specs.Parts.{joined}
use Rattle.checks.proofs.OpenSays.{not_whole, is_whole}
use Rattle.icmsg.specs.Rules.{Outcome as RingOutcome, push_rule as ringPush}
use Rattle.icbmsg.specs.Ends.{whole, changed}
use Rattle.icbmsg.specs.Rings.{ring_of, pushed}
use Rattle.icbmsg.proofs.AllOrNothing.{push-answer}
use Rattle.link.proofs.Clauses.{with_others_of_three}
use Rattle.link.proofs.RingCalls.{ring_6, push-told}
use Rattle.link.proofs.End.push.Goals as goal
use Rattle.link.proofs.End.push.Goals.{Else-not-is_whole}

lent : (c : Else-not-is_whole) (t : List ℕ) (ps : List Endpoint) (bs : List Binding) → let a = c.args in whole (joined c.args.self.now.numbers t ps bs) a.self.now.numbers.tx (length a.tx.now) ≡ true
lent c t ps bs = let a = c.args in is_whole (joined c.args.self.now.numbers t ps bs) a.self.now.numbers.tx (length a.tx.now) _ c.is_whole.ensures c.if-not-is_whole.false

pub returns-then-not-is_whole : goal.returns-then-not-is_whole
returns-then-not-is_whole c = with_others_of_three (λ t ps bs.
    let a = c.args in
    let e = joined c.args.self.now.numbers t ps bs in
    let q = sym (push-answer e a.content.now a.tx.now) in
    let r = ring_6 e _ (pushed e (ringPush a.tx.now (ring_of a.self.now.numbers.alignment a.self.now.numbers.tx) a.self.now.numbers.write a.content.now)) (λ o. o.tx) a.tx.now (not_whole e a.self.now.numbers.tx (length a.tx.now) _ c.is_whole.ensures c.if-not-is_whole.true) refl in
    (r.0 ∙ ap without_writes q, r.1 ∙ ap (λ (o : Outcome). wrote a.tx.now o.tx) q)) refl

pub returns : goal.returns
unfolding changed
returns c = with_others_of_three (λ t ps bs.
    let a = c.args in
    let r = ap (λ (g : Ring). ringPush a.tx.now g a.self.now.numbers.write a.content.now) c.ring_of.ensures in
    let o : RingOutcome = ringPush a.tx.now (ring_of a.self.now.numbers.alignment a.self.now.numbers.tx) a.self.now.numbers.write a.content.now in
    let q = sym (push-answer (joined c.args.self.now.numbers t ps bs) a.content.now a.tx.now) in
    let w = push-told o _
    (c.push-answer.ensures.answer ∙ ap (λ (x : RingOutcome). x.answer) r) c.told.result c.told.ensures.number c.told.ensures.given _ (joined c.args.self.now.numbers t ps bs) (refusals.push a.tx.now (ring_of a.self.now.numbers.alignment a.self.now.numbers.tx) a.self.now.numbers.write a.content.now) _ (lent (goal.at.returns c).Else-not-is_whole t ps bs) c.index_after-self.ensures in
    (w.0 ∙ ap without_writes q, c.push-answer.ensures.region ∙ ap (λ (x : RingOutcome). wrote a.tx.now x.region) r ∙ ap (wrote a.tx.now) w.1 ∙ ap (λ (o : Outcome). wrote a.tx.now o.tx) q)) refl
