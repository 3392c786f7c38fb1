-- A service turn (docs/RULES.md, W): at most B packets off the receive ring, each pulled, and handed over as an arriving control message.
use Rattle.std.specs.Prelude.{ℕ, zero, suc, min, Bool, true, false, List, [], ◌∷◌, eqb, length, take}
use Rattle.wire.specs.Choice.{pick}
use Rattle.wire.specs.Bytes.{wrote}
use Rattle.icbmsg.specs.Outcome.{Given, nothing, a_length, dropped, a_run, control, delivery, Outcome}
use Rattle.icbmsg.specs.Ends.{whole}
use Rattle.icbmsg.specs.Calls.{Call, pull, arrival, step}
use Rattle.icbmsg.specs.End.{End}

-- W3, why a turn stopped: B packets were taken; a pull was refused, with its number and what comes with it; an arrival's answer is for the
-- caller
pub data Stop : Type 0 where
  reached : Stop
  at_pull : (number : ℕ) (given : Given) → Stop
  at_arrival : (given : Given) → Stop

-- all of a turn: how many packets it took, why it stopped, the receive bytes as it leaves them, and the end
pub record Turn : Type 0 where
  pub taken : ℕ
  pub stop : Stop
  pub rx : List ℕ
  pub next : End

abbrev pub turned : ℕ → Stop → List ℕ → End → Turn
turned n s rx e = record { taken = n; stop = s; rx = rx; next = e }

-- ---- one packet

-- W2: its pull, into a buffer of three bytes
abbrev pub three : List ℕ
three = 0 ∷ 0 ∷ 0 ∷ []

abbrev pub pulling : End → List ℕ → Outcome
pulling e rx = step e (pull rx three)

abbrev pub pulled_rx : End → List ℕ → List ℕ
pulled_rx e rx = wrote rx (pulling e rx).rx

-- the length that comes with a pull
abbrev pub length_given : Given → ℕ
length_given nothing = 0
length_given (a_length k) = k
length_given (dropped n) = 0
length_given (a_run s n) = 0
length_given (control k a b) = 0
length_given (delivery a b k) = 0

-- its arrival, which is handed as many of the three bytes as the packet has
abbrev pub handed : End → List ℕ → List ℕ
handed e rx = take (min (length_given (pulling e rx).given) 3) (wrote three (pulling e rx).buffer)

abbrev pub arriving : End → List ℕ → Outcome
arriving e rx = step (pulling e rx).next (arrival (pulled_rx e rx) (handed e rx))

-- what becomes of the next packet: none is taken, since its pull is refused so; or it is taken, and its arrival answers so
pub data Packet : Type 0 where
  missing : (number : ℕ) (given : Given) → Packet
  handled : (number : ℕ) (given : Given) → Packet

pub record Served : Type 0 where
  pub packet : Packet
  pub rx : List ℕ
  pub next : End

unfoldable pub served : End → List ℕ → Served
served e rx =
    pick (eqb (pulling e rx).number 0)
    (record { packet = handled (arriving e rx).number (arriving e rx).given; rx = pulled_rx e rx; next = (arriving e rx).next })
    (record { packet = missing (pulling e rx).number (pulling e rx).given; rx = pulled_rx e rx; next = (pulling e rx).next })

-- ---- the turn

-- W3, an arrival's answer that ends it: a data message is delivered, or a reply is for the caller to push. W4: any other, and every refusal, is
-- counted, and the turn goes on
abbrev pub ends_turn : Given → Bool
ends_turn nothing = false
ends_turn (a_length k) = false
ends_turn (dropped n) = false
ends_turn (a_run s n) = false
ends_turn (control k a b) = true
ends_turn (delivery a b k) = true

-- n packets were taken before this one, and t is the turn that goes on behind it
abbrev pub behind : Packet → ℕ → List ℕ → End → Turn → Turn
behind (missing k g) n rx e t = turned n (at_pull k g) rx e
behind (handled k g) n rx e t = pick (ends_turn g) (turned (suc n) (at_arrival g) rx e) t

-- n packets are taken, and b more may be
unfoldable pub turn_from : ℕ → ℕ → End → List ℕ → Turn
turn_from zero n e rx = turned n reached rx e
turn_from (suc b) n e rx = let s : Served = served e rx in behind s.packet n s.rx s.next (turn_from b (suc n) s.next s.rx)

-- W1: 6 comes first
unfoldable pub turn_of : End → List ℕ → ℕ → Turn
turn_of e rx b = pick (whole e e.rx (length rx)) (turn_from b 0 e rx) (turned 0 (at_pull 6 (a_length 0)) rx e)

-- ---- its single calls

-- each is lent the receive bytes as the one before left them
unfoldable pub calls_from : ℕ → End → List ℕ → List Call
calls_from zero e rx = []
calls_from (suc b) e rx =
    pull rx three
    ∷ pick (eqb (pulling e rx).number 0) (arrival (pulled_rx e rx) (handed e rx) ∷ pick (ends_turn (arriving e rx).given) [] (calls_from b (arriving e rx).next (pulled_rx e rx))) []

-- W5; a turn that is refused stands for a pull that is
unfoldable pub turn_calls : End → List ℕ → ℕ → List Call
turn_calls e rx b = pick (whole e e.rx (length rx)) (calls_from b e rx) (pull rx three ∷ [])
