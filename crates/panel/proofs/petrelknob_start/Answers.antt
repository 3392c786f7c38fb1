use lib.ListN.{length}
use Rattle.icmsg.specs.Rules.{start_rule}
use Rattle.panel.specs.Calls.{start_call}
use Rattle.panel.proofs.Opening.{layout-lies, call_is}
use Rattle.panel.proofs.petrelknob_start.Goals as goal

pub open_ring-opened-requires : goal.open_ring-opened-requires
open_ring-opened-requires c = rw c.layout-y.ensures (layout-lies _ _ _ _ _)

pub returns : goal.returns
unfolding start_call
returns c =
    let a = c.args in
    rw (← c.layout-y.ensures, ← call_is c.open_ring-opened.result _ _ (λ g. start_rule (length a.region.now) g) c.open_ring-opened.ensures.number c.open_ring-opened.ensures.ring) (record { number = rw (← c.start_on-a.ensures.answer) c.give.ensures.number; region = c.start_on-a.ensures.region; numbers = rw (← c.start_on-a.ensures.answer) c.give.ensures.numbers })
