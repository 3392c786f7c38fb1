use Prim.Native.Nat.{ℕ}
use mathlib.Core.Bool.{true}
use mathlib.Core.List.{List}
use mathlib.Core.Path.{◌≡◌, refl, ap, ◌∙◌}
use lib.ListN.{length}
use Rattle.wire.specs.Bytes.{wrote}
use Rattle.icmsg.specs.declared.Ring.{Ring}
use Rattle.endpoints.specs.declared.Endpoint.{Endpoint}
use Rattle.endpoints.specs.declared.Binding.{Binding}
use Rattle.checks.specs.Parts.{joined}
use Rattle.checks.proofs.OpenSays.{not_whole, is_whole}
use Rattle.link.proofs.Clauses.{with_others_of_three}
use Rattle.icmsg.specs.Rules.{Outcome as RingOutcome, start_rule as ringStart}
use Rattle.icmsg.proofs.Indexes.{refusals}
use Rattle.icbmsg.specs.Ends.{whole, changed}
use Rattle.icbmsg.specs.Rings.{ring_of, pushed, start_of}
use Rattle.link.proofs.RingCalls.{ring_6, push-told}
use Rattle.link.proofs.End.start.Goals as goal
use Rattle.link.proofs.End.start.Goals.{Else-not-is_whole}

lent : (c : Else-not-is_whole) (t : List ℕ) (ps : List Endpoint) (bs : List Binding) → let a = c.args in whole (joined c.args.self.now.numbers t ps bs) a.self.now.numbers.tx (length a.tx.now) ≡ true
lent c t ps bs = let a = c.args in is_whole (joined c.args.self.now.numbers t ps bs) a.self.now.numbers.tx (length a.tx.now) _ c.is_whole.ensures c.if-not-is_whole.false

pub returns-then-not-is_whole : goal.returns-then-not-is_whole
unfolding start_of
returns-then-not-is_whole c = with_others_of_three (λ t ps bs.
    let a = c.args in
    let e = joined c.args.self.now.numbers t ps bs in
    let r = ring_6 e _ (pushed e (ringStart (length a.tx.now) (ring_of a.self.now.numbers.alignment a.self.now.numbers.tx))) (λ o. o.tx) a.tx.now (not_whole e a.self.now.numbers.tx (length a.tx.now) _ c.is_whole.ensures c.if-not-is_whole.true) refl in
    (r.0, r.1)) refl

pub returns : goal.returns
unfolding start_of changed
returns c = with_others_of_three (λ t ps bs.
    let a = c.args in
    let r = ap (λ (g : Ring). ringStart (length a.tx.now) g) c.ring_of.ensures in
    let o : RingOutcome = ringStart (length a.tx.now) (ring_of a.self.now.numbers.alignment a.self.now.numbers.tx) in
    let w = push-told o _
    (c.start-answer.ensures.answer ∙ ap (λ (x : RingOutcome). x.answer) r) c.told.result c.told.ensures.number c.told.ensures.given _ (joined c.args.self.now.numbers t ps bs) (refusals.start (length a.tx.now) (ring_of a.self.now.numbers.alignment a.self.now.numbers.tx)) _ (lent (goal.at.returns c).Else-not-is_whole t ps bs) c.index_after-self.ensures in
    (w.0, c.start-answer.ensures.region ∙ ap (λ (x : RingOutcome). wrote a.tx.now x.region) r ∙ ap (wrote a.tx.now) w.1)) refl
