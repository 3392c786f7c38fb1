-- The calls of a unit (docs/RULES.md, U): those of the ring, on a region that is lent whole.
use Rattle.std.specs.Prelude.{ℕ, List, eqb, length}
use Rattle.wire.specs.Choice.{pick}
use Rattle.wire.specs.Reads.{answer}
use Rattle.icmsg.specs.Rules.{Answer, Outcome, refusal, index_after, start_rule, push_rule, receive_rule}
use Rattle.icmsg.specs.declared.Ring.{Ring}
use Rattle.unit.specs.declared.Region.{Region}
use Rattle.unit.specs.declared.Unit.{Unit}

-- the ring of a region at alignment a
abbrev pub ring_of : ℕ → Region → Ring
ring_of a g = record { offset = g.ring_offset; alignment = a; data_length = g.data_length }

abbrev pub transmit_ring : Unit → Ring
transmit_ring u = ring_of u.alignment u.tx

abbrev pub receive_ring : Unit → Ring
receive_ring u = ring_of u.alignment u.rx

-- U3: 6 unless a slice of n bytes is the whole region. The ring's own 6 comes next, and refuses a closed unit
abbrev pub lent : ℕ → Region → Outcome → Outcome
lent n g o = pick (eqb n g.length) o (refusal 6)

unfoldable pub start_of : Unit → ℕ → Outcome
start_of u n = lent n u.tx (start_rule n (transmit_ring u))

unfoldable pub push_of : Unit → List ℕ → List ℕ → Outcome
push_of u s c = lent (length s) u.tx (push_rule s (transmit_ring u) u.write c)

-- into a buffer of b bytes
unfoldable pub receive_of : Unit → List ℕ → ℕ → Outcome
receive_of u s b = lent (length s) u.rx (answer (receive_rule (length s) (receive_ring u) u.read b) s)

-- the unit afterwards: its own index is that of the answer
abbrev pub with_write : Unit → Answer → Unit
with_write u a = record { alignment = u.alignment; tx = u.tx; rx = u.rx; write = index_after u.write a; read = u.read }

abbrev pub with_read : Unit → Answer → Unit
with_read u a = record { alignment = u.alignment; tx = u.tx; rx = u.rx; write = u.write; read = index_after u.read a }
