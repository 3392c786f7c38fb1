use mathlib.Core.Path.{sym, ◌∙◌}
use Rattle.icmsg.specs.Ring.{index_at}
use Rattle.icmsg.proofs.Checks.{in_rule_says}
use Rattle.icmsg.proofs.Pulls.{bad_index, empty, packet-found, packet-broken}
use mathlib.Core.Bool.{not}
use mathlib.Core.Path.{ap}
use Rattle.icmsg.proofs.look.Goals as goal

pub returns-then-not-in_rule : goal.returns-then-not-in_rule
unfolding index_at
returns-then-not-in_rule c = bad_index _ _ _ _ c.read_u32-w.ensures _ c.in_rule.ensures (ap not c.if-not-in_rule.true)

pub returns-then-w-r : goal.returns-then-w-r
unfolding index_at
returns-then-w-r c =
    empty _ _ _ _ c.read_u32-w.ensures _ c.in_rule.ensures (ap not c.if-not-in_rule.false) c.if-w-r.true

pub used_bytes-unread-requires : goal.used_bytes-unread-requires
used_bytes-unread-requires c =
    (c.requires.below, (in_rule_says _ _ (sym c.in_rule.ensures ∙ c.if-not-in_rule.false)).0)

pub returns-then-packet_length-unread : goal.returns-then-packet_length-unread
unfolding index_at
returns-then-packet_length-unread c =
    packet-found _ _ _ _ c.read_u32-w.ensures _ c.in_rule.ensures (ap not c.if-not-in_rule.false) c.if-w-r.false _ _ _ c.content_length-k.ensures.0 c.packet_length.ensures.0 c.used_bytes-unread.ensures.0 c.if-packet_length-unread.true

pub returns-else-packet_length-unread : goal.returns-else-packet_length-unread
unfolding index_at
returns-else-packet_length-unread c =
    packet-broken _ _ _ _ c.read_u32-w.ensures _ c.in_rule.ensures (ap not c.if-not-in_rule.false) c.if-w-r.false _ _ _ c.content_length-k.ensures.0 c.packet_length.ensures.0 c.used_bytes-unread.ensures.0 c.if-packet_length-unread.false
