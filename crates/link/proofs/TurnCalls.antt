-- A turn: one packet, by what pull and arrival have answered, and the loop over packets.
use Prim.Native.Nat.{ℕ, suc, ◌+◌, ◌-◌, ◌<◌, min}
use mathlib.Core.Bool.{true, false}
use mathlib.Core.Path.{◌≡◌, refl, sym, ap, ◌∙◌}
use mathlib.Core.List.{List}
use Rattle.std.specs.Prelude.{Result, Ok, Err, Option, Some, None}
use native.Mathlib.Omega.{arith}
use lib.ListN.{length, take}
use borrow.Author.Tests.{ne_eqb}
use Rattle.wire.specs.Bytes.{wrote}
use Rattle.wire.specs.Reads.{answer}
use Rattle.refusal.specs.Numbers.{number_of}
use Rattle.refusal.specs.declared.Refusal.{Refusal}
use Rattle.refusal.proofs.Positive.{number_positive}
use Rattle.endpoints.specs.declared.Endpoint.{Endpoint}
use Rattle.endpoints.specs.declared.Binding.{Binding}
use Rattle.icbmsg.specs.Outcome.{Given, a_length, Outcome, without_writes}
use Rattle.icbmsg.specs.Ends.{whole}
use Rattle.icbmsg.specs.Rings.{pull_rule}
use Rattle.icbmsg.specs.Arrivals.{arrival_rule}
use Rattle.icbmsg.specs.Calls.{rule, read_from, step}
use Rattle.icbmsg.specs.Turns.{reached, at_pull, turned, Turn, Served, handled, three, pulling, pulled_rx, length_given, handed, arriving, served, behind, turn_from, turn_of}
use Rattle.icbmsg.specs.End.{End}
use Rattle.icbmsg.specs.declared.Numbers.{Numbers}
use Rattle.checks.specs.Parts.{joined}
use Rattle.link.specs.Answers.{answer_number, answer_given, answered, packet_number, packet_given}
use Rattle.link.specs.Parts.{OnNumbers, Writes}
use Rattle.link.specs.Turns.{packet_of, served_of, stop_of, at_error, next_of, StopsAs}
use Rattle.link.specs.declared.Answer.{Answer}
use Rattle.link.specs.declared.PacketError.{PacketError}
use Rattle.link.specs.declared.Stop.{Stop as CodeStop}

-- ---- one packet

-- what the code's pull says of the rule's
record PulledAs (n : Numbers) (t : List ℕ) (ps : List Endpoint) (bs : List Binding) (rx rx' : List ℕ) (r : Result ℕ PacketError) (n' : Numbers) : Type 0 where
  number : packet_number r ≡ (pulling (joined n t ps bs) rx).number
  given : packet_given r ≡ (pulling (joined n t ps bs) rx).given
  next : joined n' t ps bs ≡ (pulling (joined n t ps bs) rx).next
  bytes : rx' ≡ pulled_rx (joined n t ps bs) rx

module _ (n : Numbers) (rx rx' : List ℕ) (r : Result ℕ PacketError) (n' : Numbers)
    (h : OnNumbers (λ e. without_writes (answer (pull_rule e (length rx) 3) rx)) n r n') (v : Writes (λ o. o.rx) (λ e. answer (pull_rule e (length rx) 3) rx) n rx rx')
    (t : List ℕ) (ps : List Endpoint) (bs : List Binding) where
  pulled_as : PulledAs n t ps bs rx rx' r n'
  unfolding step rule read_from
  pulled_as =
      let q = h t ps bs in
      record {
        number = ap (λ (o : Outcome). o.number) q;
        given = ap (λ (o : Outcome). o.given) q;
        next = ap (λ (o : Outcome). o.next) q;
        bytes = v t ps bs;
      }

  -- none is taken
  pub serve_missing : (x : PacketError) → r ≡ Err x → served_of (Err x) rx' (joined n' t ps bs) ≡ served (joined n t ps bs) rx
  unfolding served
  serve_missing (PacketError.Refused x) q =
      let e : End = joined n t ps bs in
      let p = pulled_as in
      let k : (pulling e rx).number ≡ number_of x = sym p.number ∙ ap packet_number q in
      let g : (pulling e rx).given ≡ packet_given (Err (PacketError.Refused x)) = sym p.given ∙ ap packet_given q in
      rw (ne_eqb (pulling e rx).number 0 (λ z. omega (arith, k, z, number_positive x)), k, g, p.next, p.bytes) refl
  serve_missing (PacketError.Dropped m) q =
      let e : End = joined n t ps bs in
      let p = pulled_as in
      let k : (pulling e rx).number ≡ 9 = sym p.number ∙ ap packet_number q in
      let g : (pulling e rx).given ≡ packet_given (Err (PacketError.Dropped m)) = sym p.given ∙ ap packet_given q in
      rw (ne_eqb (pulling e rx).number 0 (λ z. omega (arith, k, z)), k, g, p.next, p.bytes) refl

  -- one is taken, and handed over
  abbrev handled_so : List ℕ → Outcome → Served
  handled_so s o = record { packet = handled o.number o.given; rx = s; next = o.next }

  pub serve_handled : (k : ℕ) (b' m : List ℕ) (a : Result Answer Refusal) (e' : End) → r ≡ Ok k → Writes (λ o. o.buffer) (λ e. answer (pull_rule e (length rx) 3) rx) n three b' → m ≡ take (min k 3) b' →
      answered a e' ≡ answer (arrival_rule (joined n' t ps bs) (length rx') m) rx' → served_of (Ok a) rx' e' ≡ served (joined n t ps bs) rx
  unfolding served step rule read_from
  serve_handled k b' m a e' q w v c =
      let e : End = joined n t ps bs in
      let p = pulled_as in
      let z : (pulling e rx).number ≡ 0 = sym p.number ∙ ap packet_number q in
      let g : (pulling e rx).given ≡ a_length k = sym p.given ∙ ap packet_given q in
      let i : m ≡ handed e rx = v ∙ ap (take (min k 3)) (w t ps bs) ∙ ap (λ (x : Given). take (min (length_given x) 3) (wrote three (pulling e rx).buffer)) (sym g) in
      let o : answered a e' ≡ arriving e rx = c ∙ rw (p.next, p.bytes, i) refl in
      rw (z, p.bytes) (ap (handled_so (pulled_rx e rx)) o)

-- ---- what a packet is to the turn

-- why it stops behind an arrival, if it does
pub stops_in : (a : Result Answer Refusal) (s : Option CodeStop) → ((n : ℕ) (rx : List ℕ) (e : End) (t : Turn) → behind (handled (answer_number a) (answer_given a)) n rx e t ≡ next_of s (suc n) rx e t) → StopsAs s a
stops_in a s h n rx e t = h n rx e t ∙ ap (λ (m : ℕ). next_of s m rx e t) (omega arith)

module _ (rx : List ℕ) (e : End) (b : ℕ) where
  -- 6
  pub turn_6 : whole e e.rx (length rx) ≡ false → turned 0 (at_pull 6 (a_length 0)) rx e ≡ turn_of e rx b
  unfolding turn_of
  turn_6 h = rw h refl

  -- past 6
  pub turn_begins : whole e e.rx (length rx) ≡ true → turn_from (b - 0) 0 e rx ≡ turn_of e rx b
  unfolding turn_of
  turn_begins h = let q : b - 0 ≡ b = omega arith in rw (h, q) refl

-- k packets are taken, of b at most; what becomes of the next
module _ (b k : ℕ) (less : k < b) (e : End) (rx : List ℕ) (s : Served) (h : s ≡ served e rx) where
  next_is : turn_from (b - k) k e rx ≡ behind s.packet k s.rx s.next (turn_from (b - (k + 1)) (k + 1) s.next s.rx)
  unfolding turn_from
  next_is =
      let m : b - k ≡ suc (b - (k + 1)) = omega arith in
      let o : suc k ≡ k + 1 = omega arith in
      rw (m, ← h, o) refl

  pub turn_misses : (x : PacketError) → s.packet ≡ packet_of (Err x) → turned k (stop_of (at_error x)) s.rx s.next ≡ turn_from (b - k) k e rx
  turn_misses (PacketError.Refused x) q = sym (next_is ∙ rw q refl)
  turn_misses (PacketError.Dropped n) q = sym (next_is ∙ rw q refl)

  module _ (a : Result Answer Refusal) (q : s.packet ≡ packet_of (Ok a)) (x : Option CodeStop) (p : StopsAs x a) where
    arrival_is : turn_from (b - k) k e rx ≡ next_of x (k + 1) s.rx s.next (turn_from (b - (k + 1)) (k + 1) s.next s.rx)
    arrival_is = next_is ∙ rw q (p k s.rx s.next (turn_from (b - (k + 1)) (k + 1) s.next s.rx))

    pub turn_stops : (y : CodeStop) → x ≡ Some y → turned (k + 1) (stop_of y) s.rx s.next ≡ turn_from (b - k) k e rx
    turn_stops y z = sym (arrival_is ∙ rw z refl)

    pub turn_again : x ≡ None → turn_from (b - (k + 1)) (k + 1) s.next s.rx ≡ turn_from (b - k) k e rx
    turn_again z = sym (arrival_is ∙ rw z refl)

-- as many packets were taken as may be
pub turn_reached : (b k : ℕ) (e : End) (rx : List ℕ) → k ≡ b → turned b reached rx e ≡ turn_from (b - k) k e rx
unfolding turn_from
turn_reached b k e rx h = let q : b - k ≡ 0 = omega (arith, h) in rw (q, h) refl
