-- The calls on one end, each with its arguments and the bytes lent to it, and a run of a list of them.
use Rattle.std.specs.Prelude.{ℕ, List, [], ◌∷◌, length}
use Rattle.wire.specs.Reads.{gives, answer}
use Rattle.icbmsg.specs.Outcome.{Outcome, Rule}
use Rattle.icbmsg.specs.Rings.{start_of, push_rule, pull_rule}
use Rattle.icbmsg.specs.Messages.{reserve_of, room_of, send_rule, drop_of, view_of, done_rule, room_question, view_question}
use Rattle.icbmsg.specs.Registering.{register_rule}
use Rattle.icbmsg.specs.Arrivals.{arrival_rule}
use Rattle.icbmsg.specs.End.{End}

-- tx and rx are the lent transmit and receive bytes
pub data Call : Type 0 where
  start : (tx : List ℕ) → Call
  push : (tx content : List ℕ) → Call
  pull : (rx buffer : List ℕ) → Call
  reserve : (k : ℕ) → Call
  room : (tx : List ℕ) (start : ℕ) → Call
  send : (tx : List ℕ) (start address k : ℕ) → Call
  drop : (start : ℕ) → Call
  arrival : (rx message : List ℕ) → Call
  view : (rx : List ℕ) (start : ℕ) → Call
  done : (tx : List ℕ) (start : ℕ) → Call
  register : (tx name : List ℕ) → Call
  ask_room : (start lent : ℕ) → Call
  ask_view : (start lent : ℕ) → Call

unfoldable pub rule : End → Call → Rule
rule e (start tx) = gives (start_of e (length tx))
rule e (push tx c) = push_rule e (length tx) c
rule e (pull rx b) = pull_rule e (length rx) (length b)
rule e (reserve k) = gives (reserve_of e k)
rule e (room tx s) = gives (room_of e (length tx) s)
rule e (send tx s a k) = send_rule e (length tx) s a k
rule e (drop s) = gives (drop_of e s)
rule e (arrival rx m) = arrival_rule e (length rx) m
rule e (view rx s) = gives (view_of e (length rx) s)
rule e (done tx s) = done_rule e (length tx) s
rule e (register tx n) = register_rule e (length tx) n
rule e (ask_room s n) = gives (room_question e s n)
rule e (ask_view s n) = gives (view_question e s n)

-- the bytes lent to a call: of the regions, and a buffer of the caller's
pub record Lent : Type 0 where
  pub tx : List ℕ
  pub rx : List ℕ
  pub buffer : List ℕ

abbrev pub lent_none : Lent
lent_none = record { tx = []; rx = []; buffer = [] }

abbrev pub lent_tx : List ℕ → Lent
lent_tx tx = record { tx = tx; rx = []; buffer = [] }

abbrev pub lent_rx : List ℕ → List ℕ → Lent
lent_rx rx buffer = record { tx = []; rx = rx; buffer = buffer }

unfoldable pub lent : Call → Lent
lent (start tx) = lent_tx tx
lent (push tx c) = lent_tx tx
lent (pull rx b) = lent_rx rx b
lent (reserve k) = lent_none
lent (room tx s) = lent_tx tx
lent (send tx s a k) = lent_tx tx
lent (drop s) = lent_none
lent (arrival rx m) = lent_rx rx []
lent (view rx s) = lent_rx rx []
lent (done tx s) = lent_tx tx
lent (register tx n) = lent_tx tx
lent (ask_room s n) = lent_none
lent (ask_view s n) = lent_none

-- the bytes that its rule reads: no call is lent both regions
unfoldable pub read_from : Call → List ℕ
read_from (start tx) = tx
read_from (push tx c) = tx
read_from (pull rx b) = rx
read_from (reserve k) = []
read_from (room tx s) = tx
read_from (send tx s a k) = tx
read_from (drop s) = []
read_from (arrival rx m) = rx
read_from (view rx s) = rx
read_from (done tx s) = tx
read_from (register tx n) = tx
read_from (ask_room s n) = []
read_from (ask_view s n) = []

unfoldable pub step : End → Call → Outcome
step e c = answer (rule e c) (read_from c)

-- N1, a run: each call gets the end as the one before left it
unfoldable pub run : End → List Call → List Outcome
run e [] = []
run e (c ∷ cs) = step e c ∷ run (step e c).next cs

-- and the end that they leave
abbrev pub left : End → List Call → End
left e [] = e
left e (c ∷ cs) = left (step e c).next cs
