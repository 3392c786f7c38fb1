-- The code's end as the rules' end; number of each answer, and what comes with it; and the outcome of a call but for what it writes.
use Rattle.std.specs.Prelude.{ℕ, List, [], true, ◌≡◌, Result, Ok, Err}
use Rattle.refusal.specs.Numbers.{number_of}
use Rattle.refusal.specs.declared.Refusal.{Refusal}
use Rattle.icmsg.specs.Rules.{Answer as RingAnswer, refused as ringNo, accepted as ringYes, dropped as ringDropped}
use Rattle.icbmsg.specs.Outcome.{Given, nothing, a_length, dropped, a_run, control, delivery, Outcome}
use Rattle.icbmsg.specs.Ends.{open_numbers}
use Rattle.icbmsg.specs.Opening.{closed_with}
use Rattle.icbmsg.specs.End.{End}
use Rattle.icbmsg.specs.declared.Numbers.{Numbers}
use Rattle.checks.specs.Parts.{joined}
use Rattle.link.specs.declared.Answer.{Answer}
use Rattle.link.specs.declared.Answer.TheVariants.{Accepted, Run, Control, Delivered}
use Rattle.link.specs.declared.PacketError.{PacketError}
use Rattle.link.specs.declared.Opened.{Opened}
use Rattle.link.specs.declared.Place.{Place}
use Rattle.link.specs.declared.End.{End as CodeEnd}

abbrev pub end_of : CodeEnd → End
end_of e = joined e.numbers e.tables e.endpoints e.bindings

-- the code's end is open
abbrev pub IsOpen : CodeEnd → Type 0
IsOpen e = open_numbers e.numbers.alignment e.numbers.tx e.numbers.rx e.numbers.write e.numbers.read ≡ true

abbrev pub given_with : Answer → Given
given_with Accepted = nothing
given_with (Run s n) = a_run s n
given_with (Control k a b) = control k a b
given_with (Delivered a b k) = delivery a b k

abbrev pub answer_number : Result Answer Refusal → ℕ
answer_number (Ok a) = 0
answer_number (Err x) = number_of x

abbrev pub answer_given : Result Answer Refusal → Given
answer_given (Ok a) = given_with a
answer_given (Err x) = nothing

-- a call that answers this and leaves the end e
abbrev pub answered : Result Answer Refusal → End → Outcome
answered a e = record { number = answer_number a; given = answer_given a; begin = 0; size = 0; tx = []; rx = []; buffer = []; next = e }

abbrev pub outcome_of : Opened → Outcome
outcome_of c = answered c.answer (end_of c.end)

-- of the checks of an opening: the end that is made, or the closed one
abbrev pub opened_as : Result CodeEnd Refusal → Outcome
opened_as (Ok e) = answered (Ok Accepted) (end_of e)
opened_as (Err x) = closed_with (number_of x)

-- the numbers with another own write index
abbrev pub writing : Numbers → ℕ → Numbers
writing n w = record { initiator = n.initiator; alignment = n.alignment; tx = n.tx; rx = n.rx; write = w; read = n.read }

-- the code's end with other numbers; with other tables; and with both, where of the numbers the own write index alone is another
abbrev pub with_numbers : CodeEnd → Numbers → CodeEnd
with_numbers e n = record { numbers = n; tables = e.tables; endpoints = e.endpoints; bindings = e.bindings }

abbrev pub with_tables : CodeEnd → List ℕ → CodeEnd
with_tables e t = record { numbers = e.numbers; tables = t; endpoints = e.endpoints; bindings = e.bindings }

abbrev pub with_push : CodeEnd → ℕ → List ℕ → CodeEnd
with_push e w t = record { numbers = writing e.numbers w; tables = t; endpoints = e.endpoints; bindings = e.bindings }

-- of start, push and pull: the length, 0 on a refusal, or what was dropped
abbrev pub packet_number : Result ℕ PacketError → ℕ
packet_number (Ok k) = 0
packet_number (Err (PacketError.Dropped n)) = 9
packet_number (Err (PacketError.Refused x)) = number_of x

abbrev pub packet_given : Result ℕ PacketError → Given
packet_given (Ok k) = a_length k
packet_given (Err (PacketError.Dropped n)) = dropped n
packet_given (Err (PacketError.Refused x)) = a_length 0

-- the same of what a ring answered
abbrev pub given_in : RingAnswer → Given
given_in (ringNo n) = a_length 0
given_in (ringYes k i) = a_length k
given_in (ringDropped n i) = dropped n

abbrev pub ring_answered : Result ℕ PacketError → End → Outcome
ring_answered a e = record { number = packet_number a; given = packet_given a; begin = 0; size = 0; tx = []; rx = []; buffer = []; next = e }

-- of a place, which leaves the end e; a refusal has none
abbrev pub place_of : Result Place Refusal → End → Outcome
place_of (Ok p) e = record { number = 0; given = nothing; begin = p.begin; size = p.size; tx = []; rx = []; buffer = []; next = e }
place_of (Err x) e = record { number = number_of x; given = nothing; begin = 0; size = 0; tx = []; rx = []; buffer = []; next = e }
