use lib.ListN.{length}
use Rattle.wire.specs.Reads.{answer}
use Rattle.icmsg.specs.Rules.{pull_rule}
use Rattle.panel.specs.Calls.{pull_call}
use Rattle.panel.proofs.Opening.{layout-lies, call_is}
use Rattle.panel.proofs.petrelknob_pull.Goals as goal

pub open_ring-opened-requires : goal.open_ring-opened-requires
open_ring-opened-requires c = rw c.layout-y.ensures (layout-lies _ _ _ _ _)

pub returns : goal.returns
unfolding pull_call
returns c =
    let a = c.args in
    rw (← c.layout-y.ensures, ← call_is c.open_ring-opened.result _ _ (λ g. answer (pull_rule (length a.region.now) g a.own (length a.buffer.now)) a.region.now) c.open_ring-opened.ensures.number c.open_ring-opened.ensures.ring) (record { number = rw (← c.pull_on-a.ensures.answer) c.give.ensures.number; region = c.pull_on-a.ensures.region; buffer = c.pull_on-a.ensures.buffer; numbers = rw (← c.pull_on-a.ensures.answer) c.give.ensures.numbers })
