-- The ring is tested last: send, done and register have the numbers of their rule first, and of the ring's they have 7 and 10.
use Prim.Native.Nat.{ℕ, zero, suc, ◌≤◌}
use mathlib.Core.Bool.{true}
use mathlib.Core.Path.{◌≡◌, refl, sym, ap, ◌∙◌}
use mathlib.Core.List.{List, [], ◌∷◌}
use native.Mathlib.Omega.{arith}
use lib.ListN.{length}
use borrow.Author.Tests.{le-leb}
use Rattle.wire.specs.Choice.{passed}
use Rattle.icmsg.specs.Ring.{read_index_at, index_at}
use Rattle.icmsg.specs.Rules.{answer_number, refusal, room_number, fit_number, push_number, pushed as ringPushed, Outcome as RingOutcome, push_rule as ringPush}
use Rattle.icbmsg.specs.Outcome.{Given, nothing, a_length, dropped, a_run, control, delivery, Outcome}
use Rattle.icbmsg.specs.Ends.{whole}
use Rattle.icbmsg.specs.Rings.{transmit_ring}
use Rattle.icbmsg.specs.Messages.{send_of, done_of}
use Rattle.icbmsg.specs.Registering.{register_of}
use Rattle.icbmsg.specs.Calls.{rule, read_from, step}
use Rattle.icbmsg.specs.Pushing.{contents, PushedOrNot, nothing_to_push, not_pushed, is_pushed, then_ring, RingLast}
use Rattle.icbmsg.specs.End.{End}
use Rattle.icbmsg.proofs.AllOrNothing.{all_or_nothing_lem, not_both}
use Rattle.icbmsg.proofs.BeforeRing.{ring_sound, BeforeRing, send-before, done-before, register-before}

-- ---- the number of a push on a region that is lent whole

short : (g : Given) (c : List ℕ) → contents g ≡ c ∷ [] → length c ≤ 65535
short nothing c q = absurd (not_both q)
short (a_length k) c q = absurd (not_both q)
short (dropped n) c q = absurd (not_both q)
short (a_run s n) c q = absurd (not_both q)
short (control k a b) c q = let z : k ∷ a ∷ b ∷ [] ≡ c = cc in omega (arith, ap length z)
short (delivery a b k) c q = absurd (not_both q)

number_of : (x : ℕ) (o : RingOutcome) → answer_number o.answer ≡ 0 → answer_number (passed x o refusal).answer ≡ x
number_of zero o h = h
number_of (suc x) o h = refl

push-number : (e : End) (tx c : List ℕ) → whole e e.tx (length tx) ≡ true → length c ≤ 65535 →
    answer_number (ringPush tx (transmit_ring e) e.write c).answer ≡ room_number e.tx.data_length (index_at tx (read_index_at (transmit_ring e))) e.write (length c)
unfolding ringPush push_number fit_number
push-number e tx c w l =
    rw (ring_sound e (length tx) w, le-leb (length c) 65535 l)
    (number_of (room_number e.tx.data_length (index_at tx (read_index_at (transmit_ring e))) e.write (length c)) (ringPushed [] (transmit_ring e) e.write c) refl)

-- ---- behind a rule

passes : (n : ℕ) → n ≡ passed n 0 (λ m. m)
passes zero = refl
passes (suc n) = refl

comes_last : {e : End} {tx : List ℕ} {o o' : Outcome} → PushedOrNot e tx o o' → BeforeRing e (length tx) o → o'.number ≡ then_ring e tx o
comes_last {o = o} (nothing_to_push q) z = rw q (passes o.number)
comes_last {e} {tx} {o} (not_pushed c n q p l) z =
    rw (z.accepts c q, q) (ap (λ (x : RingOutcome). answer_number x.answer) (sym p) ∙ push-number e tx c (z.lent c q) (short o.given c q))
comes_last {e} {tx} {o} (is_pushed c k i q p) z =
    rw (z.accepts c q, q) (ap answer_number (sym p) ∙ push-number e tx c (z.lent c q) (short o.given c q))

-- ---- THE THEOREM

pub ring_last : RingLast
unfolding step rule read_from
ring_last =
    record {
      of_send = λ e tx s a k. comes_last (all_or_nothing_lem e tx (send_of e (length tx) s a k)) (send-before e (length tx) s a k).holds;
      of_done = λ e tx s. comes_last (all_or_nothing_lem e tx (done_of e (length tx) s)) (done-before e (length tx) s).holds;
      of_register = λ e tx n. comes_last (all_or_nothing_lem e tx (register_of e (length tx) n)) (register-before e (length tx) n).holds;
    }
