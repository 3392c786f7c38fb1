-- Start, push and pull, by what the code's ring has answered.
use Prim.Native.Nat.{ℕ}
use mathlib.Core.Bool.{Bool, true, false}
use mathlib.Core.Path.{◌≡◌, refl, ap, ◌∙◌}
use mathlib.Core.List.{List, []}
use Rattle.std.specs.Prelude.{Result}
use lib.ListN.{length}
use Rattle.wire.specs.Choice.{pick}
use Rattle.wire.specs.Bytes.{wrote}
use Rattle.wire.specs.Reads.{answer}
use Rattle.icmsg.specs.Rules.{Outcome as RingOutcome, Answer, answer_number, index_after, refused as ringNo, accepted as ringYes, dropped as ringDropped, refusal}
use Rattle.icmsg.specs.Laws.{PlainAt, Plain}
use Rattle.icbmsg.specs.Outcome.{Outcome, ring_refused, without_writes}
use Rattle.icbmsg.specs.Ends.{whole, changed, with_write, with_read}
use Rattle.icbmsg.specs.Rings.{push_outcome, pull_outcome, pushed, pulled, pull_rule}
use Rattle.link.specs.Answers.{packet_number, packet_given, given_in, ring_answered}
use Rattle.link.specs.declared.PacketError.{PacketError}
use Rattle.icbmsg.proofs.RulesRead.{pull-answer}
use Rattle.icbmsg.specs.End.{End}

-- 6: nothing is written
pub ring_6 : (e : End) (w : Bool) (o : Outcome) (f : Outcome → List (ℕ × ℕ)) (s : List ℕ) → w ≡ false → f (ring_refused e 6) ≡ [] →
    (ring_refused e 6 ≡ without_writes (pick w o (ring_refused e 6))) × (s ≡ wrote s (f (pick w o (ring_refused e 6))))
unfolding wrote
ring_6 e w o f s h k = (rw h, rw (h, k))

-- The ring's outcome o, what the code's ring has answered (x), and what the code tells of it: the answer p, and the own index i.
module _ (o : RingOutcome) (x : Answer) (h : x ≡ o.answer)
    (p : Result ℕ PacketError) (number : packet_number p ≡ answer_number x) (given : packet_given p ≡ given_in x) (i : ℕ) (e : End) where
  -- on the transmit side
  pub push-told : Plain o → (w : Bool) → w ≡ true → i ≡ index_after e.write x →
      (ring_answered p (with_write e i) ≡ without_writes (pick w (pushed e o) (ring_refused e 6))) × (o.region ≡ (pick w (pushed e o) (ring_refused e 6)).tx)
  unfolding changed
  push-told plain w q k = rw (q, number, given, k, h) (go o.answer plain)
    where
      go : (y : Answer) → PlainAt o y →
          (◌≡◌ {A = Outcome} (record { number = answer_number y; given = given_in y; begin = 0; size = 0; tx = []; rx = []; buffer = []; next = with_write e (index_after e.write y) })
          (without_writes (push_outcome e o.region y))) × (o.region ≡ (push_outcome e o.region y).tx)
      go (ringNo n) r = (refl, ap (λ (z : RingOutcome). z.region) r.1)
      go (ringYes m j) r = (refl, refl)
      go (ringDropped n j) r = absurd r

  -- and on the receive side, where a refusal writes nothing, and a drop nothing to the buffer
  pub pull-told : ((n : ℕ) → o.answer ≡ ringNo n → o ≡ refusal n) → ((n j : ℕ) → o.answer ≡ ringDropped n j → o.buffer ≡ []) → (w : Bool) → w ≡ true → i ≡ index_after e.read x →
      let y : Outcome = pick w (pulled e o) (ring_refused e 6) in
      (ring_answered p (with_read e i) ≡ without_writes y) × (o.region ≡ y.rx) × (o.buffer ≡ y.buffer)
  unfolding changed
  pull-told safe drop w q k = rw (q, number, given, k, h) (go o.answer refl)
    where
      go : (y : Answer) → o.answer ≡ y →
          (◌≡◌ {A = Outcome} (record { number = answer_number y; given = given_in y; begin = 0; size = 0; tx = []; rx = []; buffer = []; next = with_read e (index_after e.read y) })
          (without_writes (pull_outcome e o.region o.buffer y)))
          × (o.region ≡ (pull_outcome e o.region o.buffer y).rx) × (o.buffer ≡ (pull_outcome e o.region o.buffer y).buffer)
      go (ringNo n) r = (refl, ap (λ (z : RingOutcome). z.region) (safe n r), ap (λ (z : RingOutcome). z.buffer) (safe n r))
      go (ringYes m j) r = (refl, refl, refl)
      go (ringDropped n j) r = (refl, refl, drop n j r)

pub pull_quiet : (e : End) (o : Outcome) (s b : List ℕ) → o ≡ ring_refused e 6 → (ring_refused e 6 ≡ without_writes o) × ((s ≡ wrote s o.rx) × (b ≡ wrote b o.buffer))
unfolding wrote
pull_quiet e o s b h = (rw h, (rw h, rw h))

-- a pull's rule as a plain equation on the bytes r
pub pull_6 : (e : End) (r : List ℕ) (b : ℕ) → whole e e.rx (length r) ≡ false → answer (pull_rule e (length r) b) r ≡ ring_refused e 6
pull_6 e r b h = pull-answer e (length r) b r ∙ rw h
