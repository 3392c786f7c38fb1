use lib.ListN.{length}
use Rattle.wire.specs.Reads.{answer}
use Rattle.icmsg.specs.Rules.{receive_rule}
use Rattle.panel.specs.Calls.{receive_call}
use Rattle.panel.proofs.Opening.{plain-lies, call_is}
use Rattle.panel.proofs.petrelknob_unit_receive.Goals as goal

pub open_ring-opened-requires : goal.open_ring-opened-requires
open_ring-opened-requires c = rw c.plain-y.ensures (plain-lies _ _ _)

pub returns : goal.returns
unfolding receive_call
returns c =
    let a = c.args in
    rw (← c.plain-y.ensures, ← call_is c.open_ring-opened.result _ _ (λ g. answer (receive_rule (length a.region.now) g a.own (length a.buffer.now)) a.region.now) c.open_ring-opened.ensures.number c.open_ring-opened.ensures.ring) (record { number = rw (← c.receive_on-a.ensures.answer) c.give.ensures.number; region = c.receive_on-a.ensures.region; buffer = c.receive_on-a.ensures.buffer; numbers = rw (← c.receive_on-a.ensures.answer) c.give.ensures.numbers })
