use mathlib.Core.Path.{sym, ◌∙◌}
use native.Mathlib.Omega.{arith}
use Rattle.icmsg.proofs.Checks.{in_rule_says, bad_index, no_room, room}
use mathlib.Core.Bool.{not}
use mathlib.Core.Path.{ap}
use Rattle.icmsg.proofs.check_fit.Goals as goal

pub returns-then-not-in_rule : goal.returns-then-not-in_rule
returns-then-not-in_rule c = bad_index _ _ _ _ c.requires.1 _ c.in_rule.ensures (ap not c.if-not-in_rule.true)

pub packet_length-requires : goal.packet_length-requires
packet_length-requires c = omega (arith, c.requires.1)

pub used_bytes-requires : goal.used_bytes-requires
used_bytes-requires c =
    ((in_rule_says _ _ (sym c.in_rule.ensures ∙ c.if-not-in_rule.false)).0, c.requires.0)

pub returns-then-packet_length-used_bytes : goal.returns-then-packet_length-used_bytes
returns-then-packet_length-used_bytes c =
    room _ _ _ _ c.requires.1 _ c.in_rule.ensures (ap not c.if-not-in_rule.false) _ _ c.packet_length.ensures.0 c.used_bytes.ensures.0 c.if-packet_length-used_bytes.true

pub returns-else-packet_length-used_bytes : goal.returns-else-packet_length-used_bytes
returns-else-packet_length-used_bytes c =
    no_room _ _ _ _ c.requires.1 _ c.in_rule.ensures (ap not c.if-not-in_rule.false) _ _ c.packet_length.ensures.0 c.used_bytes.ensures.0 c.if-packet_length-used_bytes.false
