-- What holds of every turn (docs/RULES.md, W). Proofs: proofs/Turns.antt, TurnsOnRings.antt.
use Rattle.std.specs.Prelude.{ℕ, ◌+◌, ◌≤◌, ◌<◌, Bool, true, false, ◌≡◌, List, [], ◌∷◌, ◌++◌, eqb, length, take, drop as without}
use Rattle.wire.specs.Choice.{pick}
use Rattle.wire.specs.Bytes.{wrote, Inside}
use Rattle.icmsg.specs.Laws.{InRing}
use Rattle.icmsg.specs.Unread.{Holds}
use Rattle.icbmsg.specs.Outcome.{Given, nothing, a_length, dropped, a_run, control, delivery, Outcome}
use Rattle.icbmsg.specs.Ends.{whole}
use Rattle.icbmsg.specs.Rings.{receive_ring}
use Rattle.icbmsg.specs.Calls.{Call, start, push, pull, reserve, room, send, drop, arrival, view, done, register, ask_room, ask_view, step, left}
use Rattle.icbmsg.specs.Theorems.{Reached}
use Rattle.icbmsg.specs.Turns.{Stop, reached, at_pull, at_arrival, Turn, turned, pulling, pulled_rx, handed, arriving, ends_turn, turn_from, turn_of, turn_calls}
use Rattle.icbmsg.specs.End.{End}

-- ---- W5: a turn is its single calls

-- what one of its calls tells of a turn: how many packets are taken with it, and why the turn stops there, if it does
unfoldable pub took_by : Call → Outcome → ℕ
took_by (start tx) o = 0
took_by (push tx c) o = 0
took_by (pull rx b) o = pick (eqb o.number 0) 1 0
took_by (reserve k) o = 0
took_by (room tx s) o = 0
took_by (send tx s a k) o = 0
took_by (drop s) o = 0
took_by (arrival rx m) o = 0
took_by (view rx s) o = 0
took_by (done tx s) o = 0
took_by (register tx n) o = 0
took_by (ask_room s n) o = 0
took_by (ask_view s n) o = 0

unfoldable pub stop_by : Call → Outcome → Stop
stop_by (start tx) o = reached
stop_by (push tx c) o = reached
stop_by (pull rx b) o = pick (eqb o.number 0) reached (at_pull o.number o.given)
stop_by (reserve k) o = reached
stop_by (room tx s) o = reached
stop_by (send tx s a k) o = reached
stop_by (drop s) o = reached
stop_by (arrival rx m) o = pick (ends_turn o.given) (at_arrival o.given) reached
stop_by (view rx s) o = reached
stop_by (done tx s) o = reached
stop_by (register tx n) o = reached
stop_by (ask_room s n) o = reached
stop_by (ask_view s n) o = reached

-- what a list of calls makes of a turn that has come so far: n packets, a stop, the receive bytes, and the end
abbrev pub made_of : ℕ → Stop → List ℕ → End → List Call → Turn
made_of n s rx e [] = turned n s rx e
made_of n s rx e (c ∷ cs) = let o : Outcome = step e c in made_of (n + took_by c o) (stop_by c o) (wrote rx o.rx) o.next cs

-- THE CLAIM: count, stop, bytes and end are those that its pulls and arrivals leave, made one by one
abbrev pub OneByOne : Type 0
OneByOne = (e : End) (rx : List ℕ) (b : ℕ) → turn_of e rx b ≡ made_of 0 reached rx e (turn_calls e rx b)

-- ---- lists with turns

pub data Act : Type 0 where
  single : Call → Act
  turn : (rx : List ℕ) (b : ℕ) → Act

abbrev pub left_by : End → List Act → End
left_by e [] = e
left_by e (single c ∷ acts) = left_by (step e c).next acts
left_by e (turn rx b ∷ acts) = left_by (turn_of e rx b).next acts

-- such a list without its turns
abbrev pub singles : End → List Act → List Call
singles e [] = []
singles e (single c ∷ acts) = c ∷ singles (step e c).next acts
singles e (turn rx b ∷ acts) = turn_calls e rx b ++ singles (turn_of e rx b).next acts

-- It leaves the same end. So what holds of every list of calls, and of every end reached, holds with turns in the list.
pub record TurnsInLists : Type 0 where
  pub same_end : (e : End) (acts : List Act) → left e (singles e acts) ≡ left_by e acts
  pub stays_reached : (e : End) (acts : List Act) → Reached e → Reached (left_by e acts)

-- ---- W1, W3: when it stops

-- a turn that may take c packets more: the same, where something else than B has stopped it; else it goes on where it has come to
abbrev pub resumed : ℕ → Stop → Turn → Turn
resumed c reached t = turn_from c t.taken t.next t.rx
resumed c (at_pull n g) t = t
resumed c (at_arrival g) t = t

pub record TurnStops : Type 0 where
  -- 6 comes first, and nothing changes
  pub at_6 : (e : End) (rx : List ℕ) (b : ℕ) → whole e e.rx (length rx) ≡ false → turn_of e rx b ≡ turned 0 (at_pull 6 (a_length 0)) rx e
  -- it takes at most B packets
  pub most : (e : End) (rx : List ℕ) (b : ℕ) → (turn_of e rx b).taken ≤ b
  -- B reached: it has taken just so many
  pub at_most : (e : End) (rx : List ℕ) (b : ℕ) → (turn_of e rx b).stop ≡ reached → (turn_of e rx b).taken ≡ b
  -- a pull stops it where it may take more: so at B the ring is not looked at
  pub on_pull : (e : End) (rx : List ℕ) (b n : ℕ) (g : Given) → whole e e.rx (length rx) ≡ true → (turn_of e rx b).stop ≡ at_pull n g → (turn_of e rx b).taken < b
  -- an arrival stops it by what it gives, and its packet is counted, also as the last of B
  pub on_arrival : (e : End) (rx : List ℕ) (b : ℕ) (g : Given) → (turn_of e rx b).stop ≡ at_arrival g → (1 ≤ (turn_of e rx b).taken) × (ends_turn g ≡ true)
  -- two turns in a row are one, where the first has taken all that it may
  pub longer : (e : End) (rx : List ℕ) (b c : ℕ) → whole e e.rx (length rx) ≡ true → turn_of e rx (b + c) ≡ resumed c (turn_of e rx b).stop (turn_of e rx b)

-- ---- W3: nothing is lost

-- what comes with an answer and is for the caller: control bytes, and a delivery
abbrev pub is_for_caller : Given → Bool
is_for_caller nothing = false
is_for_caller (a_length k) = false
is_for_caller (dropped n) = false
is_for_caller (a_run s n) = false
is_for_caller (control k a b) = true
is_for_caller (delivery a b k) = true

-- all of it, of a list of calls on the end e
abbrev pub for_caller : End → List Call → List Given
for_caller e [] = []
for_caller e (c ∷ cs) = pick (is_for_caller (step e c).given) ((step e c).given ∷ for_caller (step e c).next cs) (for_caller (step e c).next cs)

abbrev pub told : Stop → List Given
told reached = []
told (at_pull n g) = []
told (at_arrival g) = g ∷ []

-- A turn tells its caller of every delivery, and of every reply, that its single calls have: of one at most, since that ends it.
abbrev pub NothingLost : Type 0
NothingLost = (e : End) (rx : List ℕ) (b : ℕ) → for_caller e (turn_calls e rx b) ≡ told (turn_of e rx b).stop

-- ---- W2: three bytes of a packet are enough

abbrev pub ThreeEnough : Type 0
ThreeEnough = (e : End) (rx m : List ℕ) → step e (arrival rx (take 3 m)) ≡ step e (arrival rx m)

-- ---- W6: what it takes off the ring

-- what it writes: on the receive ring, and inside what it is lent
pub record OnReceiveRing (e : End) (rx rx' : List ℕ) : Type 0 where
  pub writes : List (ℕ × ℕ)
  pub all : rx' ≡ wrote rx writes
  pub on_ring : InRing (receive_ring e) writes
  pub inside : Inside (length rx) writes

pub record TurnTakes : Type 0 where
  pub writes : (e : End) (rx : List ℕ) (b : ℕ) → OnReceiveRing e rx (turn_of e rx b).rx
  -- on a ring that holds whole packets, the next is pulled, and its arrival comes to what that of all its bytes would
  pub next : (e : End) (rx : List ℕ) (w : ℕ) (c : List ℕ) (cs : List (List ℕ)) → whole e e.rx (length rx) ≡ true → Holds (receive_ring e) rx e.read w (c ∷ cs) →
      ((pulling e rx).number ≡ 0) × (handed e rx ≡ take 3 c) × (arriving e rx ≡ step (pulling e rx).next (arrival (pulled_rx e rx) c))
  -- there as many packets are gone as are counted, the first ones, and the others stay
  pub removes : (e : End) (rx : List ℕ) (b w : ℕ) (cs : List (List ℕ)) → Holds (receive_ring e) rx e.read w cs →
      let t : Turn = turn_of e rx b in (t.taken ≤ length cs) × Holds (receive_ring e) t.rx t.next.read w (without t.taken cs)
  -- and no pull stops it but one that finds the ring empty, when all are taken
  pub empty : (e : End) (rx : List ℕ) (b w : ℕ) (cs : List (List ℕ)) (n : ℕ) (g : Given) → whole e e.rx (length rx) ≡ true → Holds (receive_ring e) rx e.read w cs →
      (turn_of e rx b).stop ≡ at_pull n g → (n ≡ 8) × ((turn_of e rx b).taken ≡ length cs)
