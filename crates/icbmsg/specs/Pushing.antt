-- What send, register and done push (docs/RULES.md, P): all or nothing, and the control message is the last of the unread packets.
use Rattle.std.specs.Prelude.{ℕ, ◌≤◌, Bool, true, false, ◌≡◌, ◌≢◌, List, [], ◌∷◌, ◌++◌, eqb, length}
use Rattle.wire.specs.Choice.{pick, passed}
use Rattle.wire.specs.Bytes.{wrote}
use Rattle.wire.specs.Reads.{answer}
use Rattle.icmsg.specs.Ring.{read_index_at, index_at, in_rule, behind}
use Rattle.icmsg.specs.Rules.{accepted, refusal, room_number, push_writes, push_rule as ringPush}
use Rattle.icmsg.specs.Unread.{unread, Holds, Beside}
use Rattle.icmsg.specs.declared.Ring.{Ring}
use Rattle.icbmsg.specs.Regions.{data_length}
use Rattle.icbmsg.specs.Outcome.{Given, nothing, a_length, dropped, a_run, control, delivery, Outcome, refused}
use Rattle.icbmsg.specs.Ends.{is_open, with_read}
use Rattle.icbmsg.specs.Rings.{transmit_ring, with_packet, all_or_nothing}
use Rattle.icbmsg.specs.Messages.{send_of, done_of}
use Rattle.icbmsg.specs.Registering.{register_of}
use Rattle.icbmsg.specs.Calls.{Call, start, push, pull, reserve, room, send, drop, arrival, view, done, register, ask_room, ask_view, lent, step}
use Rattle.icbmsg.specs.End.{End}

-- the contents of the packets that a control message makes: one, or none where another thing comes with the answer
abbrev pub contents : Given → List (List ℕ)
contents nothing = []
contents (a_length k) = []
contents (dropped n) = []
contents (a_run s n) = []
contents (control k a b) = (k ∷ a ∷ b ∷ []) ∷ []
contents (delivery a b k) = []

-- ---- all or nothing

-- Of a rule that gives o: o, where nothing is to be pushed; the ring's refusal, and nothing else; or o, with its packet behind what it writes
-- and the write index that the ring answers.
pub data PushedOrNot (e : End) (tx : List ℕ) (o : Outcome) : Outcome → Type 0 where
  nothing_to_push : contents o.given ≡ [] → PushedOrNot e tx o o
  not_pushed : (c : List ℕ) (n : ℕ) → contents o.given ≡ c ∷ [] → ringPush tx (transmit_ring e) e.write c ≡ refusal n → 1 ≤ n → PushedOrNot e tx o (refused e n)
  is_pushed : (c : List ℕ) (k i : ℕ) → contents o.given ≡ c ∷ [] → (ringPush tx (transmit_ring e) e.write c).answer ≡ accepted k i →
      PushedOrNot e tx o (with_packet o (ringPush tx (transmit_ring e) e.write c).region i)

-- THE LAW, P1, P2: for every rule
abbrev pub AllOrNothing : Type 0
AllOrNothing = (e : End) (tx : List ℕ) (o : Outcome) → PushedOrNot e tx o (answer (all_or_nothing e (length tx) o) tx)

-- ---- the ring comes last

-- what the ring says to what is to be pushed: 7, 10, or 0 where it takes it or there is nothing
abbrev pub ring_number : End → List ℕ → List (List ℕ) → ℕ
ring_number e tx [] = 0
ring_number e tx (c ∷ cs) = room_number (data_length e.tx) (index_at tx (read_index_at (transmit_ring e))) e.write (length c)

-- the number of a rule that gives o, and where that accepts, the ring's
abbrev pub then_ring : End → List ℕ → Outcome → ℕ
then_ring e tx o = passed o.number (ring_number e tx (contents o.given)) (λ n. n)

-- P1: so each of the three has its rule's numbers first, and of the ring's it has 7 and 10
pub record RingLast : Type 0 where
  pub of_send : (e : End) (tx : List ℕ) (s a k : ℕ) → (step e (send tx s a k)).number ≡ then_ring e tx (send_of e (length tx) s a k)
  pub of_done : (e : End) (tx : List ℕ) (s : ℕ) → (step e (done tx s)).number ≡ then_ring e tx (done_of e (length tx) s)
  pub of_register : (e : End) (tx n : List ℕ) → (step e (register tx n)).number ≡ then_ring e tx (register_of e (length tx) n)

-- ---- the transmit ring after a call

-- the contents that a call has pushed, by its number and what comes with it: none, or one
unfoldable pub pushed_by : Call → ℕ → Given → List (List ℕ)
pushed_by (start tx) n g = []
pushed_by (push tx c) n g = pick (eqb n 0) (c ∷ []) []
pushed_by (pull rx b) n g = []
pushed_by (reserve k) n g = []
pushed_by (room tx s) n g = []
pushed_by (send tx s a k) n g = contents g
pushed_by (drop s) n g = []
pushed_by (arrival rx m) n g = []
pushed_by (view rx s) n g = []
pushed_by (done tx s) n g = contents g
pushed_by (register tx m) n g = contents g
pushed_by (ask_room s m) n g = []
pushed_by (ask_view s m) n g = []

unfoldable pub is_start : Call → Bool
is_start (start tx) = true
is_start (push tx c) = false
is_start (pull rx b) = false
is_start (reserve k) = false
is_start (room tx s) = false
is_start (send tx s a k) = false
is_start (drop s) = false
is_start (arrival rx m) = false
is_start (view rx s) = false
is_start (done tx s) = false
is_start (register tx n) = false
is_start (ask_room s n) = false
is_start (ask_view s n) = false

-- the transmit bytes after a call that is lent them
abbrev pub tx_after : End → Call → List ℕ
tx_after e c = wrote (lent c).tx (step e c).tx

-- the packet of what is pushed at index w, none or one, with the index behind it
abbrev pub packet_of : Ring → ℕ → List (List ℕ) → List (ℕ × ℕ)
packet_of g w [] = []
packet_of g w (c ∷ cs) = push_writes g w c

abbrev pub index_behind : ℕ → ℕ → List (List ℕ) → ℕ
index_behind d w [] = w
index_behind d w (c ∷ cs) = behind d w (length c)

-- What an outcome that has pushed cs does on the transmit side: it writes its message, beside the ring, then the packet; its own write index is
-- behind that.
pub record Puts (e : End) (cs : List (List ℕ)) (o : Outcome) : Type 0 where
  pub message : List (ℕ × ℕ)
  pub all : o.tx ≡ message ++ packet_of (transmit_ring e) e.write cs
  pub beside : Beside (transmit_ring e) message
  pub index : o.next.write ≡ index_behind (data_length e.tx) e.write cs

pub record RingAfter : Type 0 where
  -- P3: at any end, on any ring, a call writes to the ring the packet of what it has pushed, and nothing else
  pub puts : (e : End) (c : Call) → is_start c ≡ false → Puts e (pushed_by c (step e c).number (step e c).given) (step e c)
  -- on a ring that holds whole packets, they stay, and what the call has pushed is behind them
  pub holds : (e : End) (c : Call) (r : ℕ) (cs : List (List ℕ)) → is_start c ≡ false → Holds (transmit_ring e) (lent c).tx r e.write cs →
      Holds (transmit_ring e) (tx_after e c) r (step e c).next.write (cs ++ pushed_by c (step e c).number (step e c).given)
  -- P4: so the control message of an accepted send is the last of the unread packets
  pub sent : (e : End) (tx : List ℕ) (s a k r : ℕ) (cs : List (List ℕ)) → Holds (transmit_ring e) tx r e.write cs → (step e (send tx s a k)).number ≡ 0 →
      unread (transmit_ring e) (tx_after e (send tx s a k)) ≡ unread (transmit_ring e) tx ++ ((0 ∷ a ∷ s ∷ []) ∷ [])
  -- after a refused one the end and every byte are as before, and so the list, on any ring
  pub not_sent : (e : End) (tx : List ℕ) (s a k : ℕ) → (step e (send tx s a k)).number ≢ 0 →
      ((step e (send tx s a k)).next ≡ e) × (tx_after e (send tx s a k) ≡ tx) × (unread (transmit_ring e) (tx_after e (send tx s a k)) ≡ unread (transmit_ring e) tx)

-- ---- the own read index

-- an outcome at an end whose read index is r
abbrev pub reading_at : ℕ → Outcome → Outcome
reading_at r o =
    record {
      number = o.number;
      given = o.given;
      begin = o.begin;
      size = o.size;
      tx = o.tx;
      rx = o.rx;
      buffer = o.buffer;
      next = with_read o.next r;
    }

unfoldable pub is_pull : Call → Bool
is_pull (start tx) = false
is_pull (push tx c) = false
is_pull (pull rx b) = true
is_pull (reserve k) = false
is_pull (room tx s) = false
is_pull (send tx s a k) = false
is_pull (drop s) = false
is_pull (arrival rx m) = false
is_pull (view rx s) = false
is_pull (done tx s) = false
is_pull (register tx n) = false
is_pull (ask_room s n) = false
is_pull (ask_view s n) = false

-- P5: no call but a pull looks at the own read index, as long as that is in rule
abbrev pub ReadApart : Type 0
ReadApart =
    (e : End) (c : Call) (r : ℕ) → is_pull c ≡ false → is_open e ≡ true → in_rule (data_length e.rx) r ≡ true →
    step (with_read e r) c ≡ reading_at r (step e c)
