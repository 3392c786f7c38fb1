-- The rules of the calls on the rings: start, push and pull (docs/RULES.md, R). And how a rule pushes what comes with its answer.
use Rattle.std.specs.Prelude.{ℕ, List, [], ◌∷◌, ◌++◌}
use Rattle.wire.specs.Choice.{pick}
use Rattle.wire.specs.Reads.{gives, unless, and_then}
use Rattle.icmsg.specs.Rules.{Outcome as RingOutcome, Answer, refused as ringNo, accepted as ringYes, dropped as ringDropped, push_tree as ringPush, start_rule as ringStart, pull_rule as ringPull}
use Rattle.icmsg.specs.declared.Ring.{Ring}
use Rattle.icbmsg.specs.Outcome.{Given, nothing, a_length, dropped, a_run, control, delivery, Outcome, ring_refused, dropped_to, refused, written, Rule}
use Rattle.icbmsg.specs.Ends.{whole, with_write, with_read}
use Rattle.icbmsg.specs.declared.Region.{Region}
use Rattle.icbmsg.specs.End.{End}

-- the ring of a region at alignment a
abbrev pub ring_of : ℕ → Region → Ring
ring_of a g = record { offset = g.ring_offset; alignment = a; data_length = g.data_length }

abbrev pub transmit_ring : End → Ring
transmit_ring e = ring_of e.alignment e.tx

abbrev pub receive_ring : End → Ring
receive_ring e = ring_of e.alignment e.rx

-- what the ring answered on the transmit side: its writes ws, and the end's own write index moved on; nothing is dropped there
abbrev pub push_outcome : End → List (ℕ × ℕ) → Answer → Outcome
push_outcome e ws (ringNo n) = ring_refused e n
push_outcome e ws (ringYes k i) = written (with_write e i) (a_length k) ws
push_outcome e ws (ringDropped n i) = ring_refused e 9

-- and on the receive side
abbrev pub pull_outcome : End → List (ℕ × ℕ) → List (ℕ × ℕ) → Answer → Outcome
pull_outcome e ws bs (ringNo n) = ring_refused e n
pull_outcome e ws bs (ringYes k i) = record { number = 0; given = a_length k; begin = 0; size = 0; tx = []; rx = ws; buffer = bs; next = with_read e i }
pull_outcome e ws bs (ringDropped n i) = dropped_to (with_read e i) n ws

abbrev pub pushed : End → RingOutcome → Outcome
pushed e o = push_outcome e o.region o.answer

abbrev pub pulled : End → RingOutcome → Outcome
pulled e o = pull_outcome e o.region o.buffer o.answer

-- n bytes lent of the transmit region
unfoldable pub push_rule : End → ℕ → List ℕ → Rule
push_rule e n c = unless (whole e e.tx n) (ring_refused e 6) (and_then (ringPush n (transmit_ring e) e.write c) (λ o. gives (pushed e o)))

unfoldable pub start_of : End → ℕ → Outcome
start_of e n = pick (whole e e.tx n) (pushed e (ringStart n (transmit_ring e))) (ring_refused e 6)

-- n bytes lent of the receive region, a buffer of b bytes
unfoldable pub pull_rule : End → ℕ → ℕ → Rule
pull_rule e n b = unless (whole e e.rx n) (ring_refused e 6) (and_then (ringPull n (receive_ring e) e.read b) (λ o. gives (pulled e o)))

-- ---- all or nothing (docs/RULES.md, P): a rule, then the ring's push of the control message that comes with its answer

-- an outcome with the writes ws of its packet behind its own, and the own write index i
abbrev pub with_packet : Outcome → List (ℕ × ℕ) → ℕ → Outcome
with_packet o ws i =
    record {
      number = o.number;
      given = o.given;
      begin = o.begin;
      size = o.size;
      tx = o.tx ++ ws;
      rx = o.rx;
      buffer = o.buffer;
      next = with_write o.next i;
    }

-- P1: where the ring refuses, with 7 or 10, that is all; nothing is dropped there
abbrev pub handed_on : End → Outcome → List (ℕ × ℕ) → Answer → Outcome
handed_on e o ws (ringNo n) = refused e n
handed_on e o ws (ringYes k i) = with_packet o ws i
handed_on e o ws (ringDropped n i) = refused e 9

-- P2: where nothing is to be pushed, the ring is not looked at
abbrev pub pushing : End → ℕ → Outcome → Given → Rule
pushing e n o nothing = gives o
pushing e n o (a_length k) = gives o
pushing e n o (dropped m) = gives o
pushing e n o (a_run s m) = gives o
pushing e n o (control k a b) = and_then (ringPush n (transmit_ring e) e.write (k ∷ a ∷ b ∷ [])) (λ p. gives (handed_on e o p.region p.answer))
pushing e n o (delivery a b k) = gives o

-- of a rule that gives o, with n bytes lent of the transmit region
unfoldable pub all_or_nothing : End → ℕ → Outcome → Rule
all_or_nothing e n o = pushing e n o o.given
