use Prim.Native.Nat.{ℕ}
use mathlib.Core.Bool.{true}
use mathlib.Core.List.{List}
use mathlib.Core.Path.{◌≡◌, refl, ap, ◌∙◌}
use lib.ListN.{length}
use Rattle.wire.specs.Bytes.{wrote}
use Rattle.icmsg.specs.declared.Ring.{Ring}
use Rattle.icmsg.proofs.Indexes.{pull-refused, pull-dropped}
use Rattle.endpoints.specs.declared.Endpoint.{Endpoint}
use Rattle.endpoints.specs.declared.Binding.{Binding}
use Rattle.checks.specs.Parts.{joined}
use Rattle.checks.proofs.OpenSays.{not_whole, is_whole}
use Rattle.wire.specs.Reads.{answer}
use Rattle.icmsg.specs.Rules.{answer_number, Outcome as RingOutcome, pull_rule as ringPull}
use Rattle.icbmsg.specs.Ends.{whole, changed}
use Rattle.icbmsg.specs.Rings.{ring_of}
use Rattle.icbmsg.proofs.RulesRead.{pull-answer}
use Rattle.link.proofs.Clauses.{all_of_three}
use Rattle.link.proofs.RingCalls.{pull_6, pull_quiet, pull-told}
use Rattle.link.proofs.End.pull.Goals as goal
use Rattle.link.proofs.End.pull.Goals.{Else-not-is_whole}

lent : (c : Else-not-is_whole) (t : List ℕ) (ps : List Endpoint) (bs : List Binding) → let a = c.args in whole (joined c.args.self.now.numbers t ps bs) a.self.now.numbers.rx (length a.rx.now) ≡ true
lent c t ps bs = let a = c.args in is_whole (joined c.args.self.now.numbers t ps bs) a.self.now.numbers.rx (length a.rx.now) _ c.is_whole.ensures c.if-not-is_whole.false

pub returns-then-not-is_whole : goal.returns-then-not-is_whole
returns-then-not-is_whole c = all_of_three (λ t ps bs.
    let a = c.args in
    let e = joined c.args.self.now.numbers t ps bs in
    let r = pull_quiet e _ a.rx.now a.buffer.now (pull_6 e a.rx.now (length a.buffer.now) (not_whole e a.self.now.numbers.rx (length a.rx.now) _ c.is_whole.ensures c.if-not-is_whole.true)) in
    (r.0, r.1)) refl

pub returns : goal.returns
unfolding changed
returns c = all_of_three (λ t ps bs.
    let a = c.args in
    let b = length a.buffer.now in
    let e = joined c.args.self.now.numbers t ps bs in
    let r = ap (λ (g : Ring). answer (ringPull (length a.rx.now) g a.self.now.numbers.read b) a.rx.now) c.ring_of.ensures in
    let o : RingOutcome = answer (ringPull (length a.rx.now) (ring_of a.self.now.numbers.alignment a.self.now.numbers.rx) a.self.now.numbers.read b) a.rx.now in
    let w = pull-told o _
    (c.pull-answer.ensures.answer ∙ ap (λ (x : RingOutcome). x.answer) r) c.told.result c.told.ensures.number c.told.ensures.given _ e
    (λ n h. (pull-refused (length a.rx.now) (ring_of a.self.now.numbers.alignment a.self.now.numbers.rx) a.self.now.numbers.read b a.rx.now n h).1)
    (λ n j h. ap (λ (x : RingOutcome). x.buffer) (pull-dropped (length a.rx.now) (ring_of a.self.now.numbers.alignment a.self.now.numbers.rx) a.self.now.numbers.read b a.rx.now (ap answer_number h)).is)
    _ (lent (goal.at.returns c).Else-not-is_whole t ps bs) c.index_after-self.ensures in
    rw (pull-answer e (length a.rx.now) b a.rx.now)
    (w.0, (c.pull-answer.ensures.region ∙ ap (λ (x : RingOutcome). wrote a.rx.now x.region) r ∙ ap (wrote a.rx.now) w.1, c.pull-answer.ensures.buffer ∙ ap (λ (x : RingOutcome). wrote a.buffer.now x.buffer) r ∙ ap (wrote a.buffer.now) w.2))) refl
