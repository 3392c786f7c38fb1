use mathlib.Core.Path.{ap, ◌∙◌}
use Rattle.wire.specs.Bytes.{wrote}
use Rattle.icmsg.specs.Rules.{Outcome as RingOutcome, push_rule as ringPush}
use Rattle.icmsg.specs.declared.Ring.{Ring}
use Rattle.link.proofs.PushCalls.{hands_alone}
use Rattle.link.proofs.announcements.push_control.Goals as goal

pub returns : goal.returns
returns c =
    let a = c.args in
    let r = ap (λ (g : Ring). ringPush a.tx.now g a.n.write a.control) c.ring_of.ensures in
    hands_alone a.n a.control a.tx.now _ _ c.of_push.result c.of_push.ensures (c.push-answer.ensures.answer ∙ ap (λ (x : RingOutcome). x.answer) r) (c.push-answer.ensures.region ∙ ap (λ (x : RingOutcome). wrote a.tx.now x.region) r)
