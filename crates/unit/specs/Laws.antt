-- What holds of every unit and every call on it, and of every unit that a list of calls from an opening leaves.
use Rattle.std.specs.Prelude.{ℕ, Bool, ◌&&◌, ◌≡◌, ◌≢◌, List, eqb}
use Rattle.wire.specs.Bytes.{Inside}
use Rattle.icmsg.specs.Ring.{data_length, write_index_at, index_at, is_sound, used}
use Rattle.icmsg.specs.Rules.{refused, accepted, answer_number, refusal, dropping}
use Rattle.icmsg.specs.Laws.{Sound, Plain, InRing}
use Rattle.unit.specs.Opening.{fresh_of, opening}
use Rattle.unit.specs.Rules.{transmit_ring, receive_ring, start_of}
use Rattle.unit.specs.Calls.{Call, start, push, receive, step, next, left, ring_at, lent_bytes, buffer_bytes}
use Rattle.unit.specs.declared.Opening.{Opening}
use Rattle.unit.specs.declared.Unit.{Unit}

-- ---- a refusal changes nothing

-- What is not accepted is its number and nothing else: no write, and the unit as it was. But a receive's 9 drops all that is unread, from the
-- own read index to the partner's index (R14).
pub record Refusals : Type 0 where
  pub start_plain : (u : Unit) (tx : List ℕ) → Plain (step u (start tx))
  pub push_plain : (u : Unit) (tx c : List ℕ) → Plain (step u (push tx c))
  pub receive_plain : (u : Unit) (rx b : List ℕ) → answer_number (step u (receive rx b)).answer ≢ 9 → Plain (step u (receive rx b))
  pub receive_9 : (u : Unit) (rx b : List ℕ) → answer_number (step u (receive rx b)).answer ≡ 9 →
      let w : ℕ = index_at rx (write_index_at (receive_ring u)) in
      step u (receive rx b) ≡ dropping (receive_ring u) (used (data_length (receive_ring u)) u.read w) w
  pub stays : (u : Unit) (c : Call) (n : ℕ) → (step u c).answer ≡ refused n → next u c ≡ u

-- ---- a unit stays open, or closed

-- both rings lie in regions of such lengths
abbrev pub is_open : Unit → Bool
is_open u = is_sound u.tx.length (transmit_ring u) 0 && is_sound u.rx.length (receive_ring u) 0

-- after any calls a unit is open exactly if its opening was accepted
abbrev pub OpenExactly : Type 0
OpenExactly = (o : Opening) (cs : List Call) → is_open (left (opening o).unit cs) ≡ eqb (opening o).number 0

-- and then its rings are those of the opening, its own indexes are in rule, and a start is refused for nothing but the slice's length
pub record Stands (o : Opening) (u : Unit) : Type 0 where
  pub tx_ring : transmit_ring u ≡ transmit_ring (fresh_of o)
  pub rx_ring : receive_ring u ≡ receive_ring (fresh_of o)
  pub tx : Sound u.tx.length (transmit_ring u) u.write
  pub rx : Sound u.rx.length (receive_ring u) u.read
  pub starts : (start_of u u.tx.length).answer ≡ accepted 13 20

abbrev pub OpenStands : Type 0
OpenStands = (o : Opening) (cs : List Call) → (opening o).number ≡ 0 → Stands o (left (opening o).unit cs)

-- U2: a closed unit stays as it is, and answers 6 to every call
abbrev pub ClosedSix : Type 0
ClosedSix =
    (o : Opening) (cs : List Call) (c : Call) → (opening o).number ≢ 0 →
    (left (opening o).unit cs ≡ (opening o).unit) × (step (left (opening o).unit cs) c ≡ refusal 6)

-- ---- every write lies inside the ring, and inside what is lent

abbrev pub WritesInside : Type 0
WritesInside =
    (u : Unit) (c : Call) →
    InRing (ring_at u c) (step u c).region × Inside (lent_bytes c) (step u c).region × Inside (buffer_bytes c) (step u c).buffer
