-- The calls on one unit, each with its arguments and the bytes lent to it, and the unit that a list of them leaves.
use Rattle.std.specs.Prelude.{ℕ, List, [], ◌∷◌, length}
use Rattle.icmsg.specs.Rules.{Outcome}
use Rattle.icmsg.specs.declared.Ring.{Ring}
use Rattle.unit.specs.Rules.{transmit_ring, receive_ring, start_of, push_of, receive_of, with_write, with_read}
use Rattle.unit.specs.declared.Unit.{Unit}

-- tx and rx are the lent bytes of a region
pub data Call : Type 0 where
  start : (tx : List ℕ) → Call
  push : (tx content : List ℕ) → Call
  receive : (rx buffer : List ℕ) → Call

abbrev pub step : Unit → Call → Outcome
step u (start tx) = start_of u (length tx)
step u (push tx c) = push_of u tx c
step u (receive rx b) = receive_of u rx (length b)

abbrev pub next : Unit → Call → Unit
next u (start tx) = with_write u (step u (start tx)).answer
next u (push tx c) = with_write u (step u (push tx c)).answer
next u (receive rx b) = with_read u (step u (receive rx b)).answer

-- each call gets the unit as the one before left it
abbrev pub left : Unit → List Call → Unit
left u [] = u
left u (c ∷ cs) = left (next u c) cs

-- the ring that a call is about, and how many bytes are lent of its region and as a buffer
abbrev pub ring_at : Unit → Call → Ring
ring_at u (start tx) = transmit_ring u
ring_at u (push tx c) = transmit_ring u
ring_at u (receive rx b) = receive_ring u

abbrev pub lent_bytes : Call → ℕ
lent_bytes (start tx) = length tx
lent_bytes (push tx c) = length tx
lent_bytes (receive rx b) = length rx

abbrev pub buffer_bytes : Call → ℕ
buffer_bytes (start tx) = 0
buffer_bytes (push tx c) = 0
buffer_bytes (receive rx b) = length b
