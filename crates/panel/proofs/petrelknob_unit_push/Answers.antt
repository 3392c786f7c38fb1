use native.Mathlib.Omega.{arith}
use lib.ListN.{take, length-take}
use Rattle.region.specs.Layout.{outcome_of}
use Rattle.icmsg.specs.Rules.{push_rule}
use Rattle.panel.specs.Calls.{ring_in, push_call}
use Rattle.panel.proofs.Opening.{plain-lies, call_is, long_enough}
use Rattle.panel.proofs.petrelknob_unit_push.Goals as goal

pub open_ring-opened-requires : goal.open_ring-opened-requires
open_ring-opened-requires c = rw c.plain-y.ensures (plain-lies _ _ _)

pub slice_bounds-push_on-end : goal.slice_bounds-push_on-end
slice_bounds-push_on-end c = simp length-take (omega arith)

pub returns : goal.returns
unfolding push_call
returns c =
    let a = c.args in
    let enough = long_enough a.region.now (ring_in (outcome_of c.plain-y.result) a.begin a.alignment) a.own a.content.now c.min-k.result c.min-k.ensures in
    rw (← c.plain-y.ensures, ← enough, ← call_is c.open_ring-opened.result _ _ (λ g. push_rule a.region.now g a.own (take c.min-k.result a.content.now)) c.open_ring-opened.ensures.number c.open_ring-opened.ensures.ring) (record { number = rw (← c.push_on-a.ensures.answer) c.give.ensures.number; region = c.push_on-a.ensures.region; numbers = rw (← c.push_on-a.ensures.answer) c.give.ensures.numbers })
