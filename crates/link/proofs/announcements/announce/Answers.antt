use mathlib.Core.Path.{ap, ◌∙◌}
use Rattle.wire.specs.Bytes.{straight, writes, wrote}
use Rattle.icmsg.specs.Rules.{Outcome as RingOutcome, announce_rule}
use Rattle.icmsg.specs.declared.Ring.{Ring}
use Rattle.link.proofs.PushCalls.{hands_behind, announced-inside}
use Rattle.link.proofs.announcements.announce.Goals as goal

pub returns : goal.returns
returns c =
    let a = c.args in
    let r = ap (λ (g : Ring). announce_rule a.tx.now g a.n.write a.at a.message.now a.control) c.ring_of-ring.ensures
    ∙ announced-inside a.tx.now _ a.n.write a.at a.message.now a.control c.requires in
    hands_behind a.n a.control a.tx.now _ _ (writes (straight a.at) a.message.now) c.of_push.result c.of_push.ensures (c.announce-answer.ensures.answer ∙ ap (λ (x : RingOutcome). x.answer) r) (c.announce-answer.ensures.region ∙ ap (λ (x : RingOutcome). wrote a.tx.now x.region) r)
