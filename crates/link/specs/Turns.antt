-- A turn as code, and the turn that the rules speak of.
use Rattle.std.specs.Prelude.{ℕ, ◌+◌, List, ◌≡◌, Result, Ok, Err, Option, Some, None}
use Rattle.refusal.specs.Numbers.{number_of}
use Rattle.refusal.specs.declared.Refusal.{Refusal}
use Rattle.icbmsg.specs.Outcome.{a_length, dropped, control, delivery}
use Rattle.icbmsg.specs.Turns.{Stop, reached, at_pull, at_arrival, Turn, turned, Packet, missing, handled, Served, behind}
use Rattle.icbmsg.specs.End.{End}
use Rattle.link.specs.Answers.{answer_number, answer_given}
use Rattle.link.specs.declared.Answer.{Answer}
use Rattle.link.specs.declared.PacketError.{PacketError}
use Rattle.link.specs.declared.Stop.{Stop as CodeStop}
use Rattle.link.specs.declared.Turned.{Turned}

-- ---- one packet

-- what became of it: its arrival's answer, or why none was taken
abbrev pub packet_of : Result (Result Answer Refusal) PacketError → Packet
packet_of (Ok a) = handled (answer_number a) (answer_given a)
packet_of (Err (PacketError.Refused x)) = missing (number_of x) (a_length 0)
packet_of (Err (PacketError.Dropped n)) = missing 9 (dropped n)

-- s are the receive bytes afterwards, and e the end
abbrev pub served_of : Result (Result Answer Refusal) PacketError → List ℕ → End → Served
served_of r s e = record { packet = packet_of r; rx = s; next = e }

-- ---- the turn

abbrev pub stop_of : CodeStop → Stop
stop_of CodeStop.Reached = reached
stop_of (CodeStop.Refused x) = at_pull (number_of x) (a_length 0)
stop_of (CodeStop.Dropped n) = at_pull 9 (dropped n)
stop_of (CodeStop.Delivered a b k) = at_arrival (delivery a b k)
stop_of (CodeStop.Reply k a b) = at_arrival (control k a b)

-- why it stops where no packet was taken
abbrev pub at_error : PacketError → CodeStop
at_error (PacketError.Refused x) = CodeStop.Refused x
at_error (PacketError.Dropped n) = CodeStop.Dropped n

-- what the code makes of an arrival's answer, n packets taken with it: t goes on, or it stops
abbrev pub next_of : Option CodeStop → ℕ → List ℕ → End → Turn → Turn
next_of None n rx e t = t
next_of (Some s) n rx e t = turned n (stop_of s) rx e

abbrev pub StopsAs : Option CodeStop → Result Answer Refusal → Type 0
StopsAs s a = (n : ℕ) (rx : List ℕ) (e : End) (t : Turn) → behind (handled (answer_number a) (answer_given a)) n rx e t ≡ next_of s (n + 1) rx e t

-- s are the receive bytes afterwards, and e the end
abbrev pub turned_of : Turned → List ℕ → End → Turn
turned_of r s e = turned r.taken (stop_of r.stop) s e
