-- A refusal is its number alone, but for a pull's 9; every call keeps an end open, or closed, and its numbers.
use Prim.Native.Nat.{ℕ}
use mathlib.Core.Bool.{Bool, true, false}
use mathlib.Core.Path.{◌≡◌, refl, sym, ap, ◌∙◌}
use mathlib.Core.Logic.{◌≢◌}
use mathlib.Core.List.{List, [], ◌∷◌}
use lib.ListN.{length}
use native.Mathlib.Omega.{arith}
use Rattle.wire.specs.Choice.{pick}
use Rattle.wire.specs.Reads.{answer}
use Rattle.icmsg.specs.Ring.{write_index_at, index_at, used}
use Rattle.icmsg.specs.Rules.{answer_number, Outcome as RingOutcome, read_to, dropping, pull_rule as ringPull}
use Rattle.icmsg.specs.declared.Ring.{Ring}
use Rattle.icmsg.proofs.Indexes.{refusals as ring_refusals}
use Rattle.blocks.proofs.Tables.{each}
use Rattle.icbmsg.specs.Outcome.{Given, Outcome, refused_with, ring_refused, dropped_to}
use Rattle.icbmsg.specs.Ends.{sound_numbers, is_open, whole, with_read}
use Rattle.icbmsg.specs.Rings.{receive_ring, pulled}
use Rattle.icbmsg.specs.Opening.{opening}
use Rattle.icbmsg.specs.Calls.{Call, rule, read_from, step, left}
use Rattle.icbmsg.specs.Ledger.{RunChange}
use Rattle.icbmsg.specs.Theorems.{refused_given, Part, pull_part, SameNumbers, Refusals, NumbersStay, OpenStays, OpenExactly}
use Rattle.icbmsg.specs.End.{End}
use Rattle.icbmsg.proofs.Effects.{EndChange, same_numbers, reads_to, Effect, refuses, drops, accepts, sound, effect}
use Rattle.icbmsg.proofs.RulesRead.{number-pulled, pull-answer}
use Rattle.icbmsg.proofs.OpenEnds.{open_exactly}

plainly : {e : End} {f : Given → RunChange} {p : Part} {o : Outcome} → Effect f e p o → o.number ≢ 0 → (p ≡ pull_part → o.number ≢ 9) → o ≡ refused_with (refused_given p) e o.number
plainly (refuses n h) d k = refl
plainly (drops n i ws q o r) d k = absurd (k q refl)
plainly (accepts z o p m) d k = absurd (d z)

-- where the ring drops, the end does
breaks : (e : End) (w : Bool) (g : Ring) (o : RingOutcome) (n i : ℕ) → (answer_number o.answer ≡ 9 → o ≡ dropping g n i) → (pick w (pulled e o) (ring_refused e 6)).number ≡ 9 →
    pick w (pulled e o) (ring_refused e 6) ≡ dropped_to (with_read e i) n (read_to g i)
breaks e true g o n i f h = ap (pulled e) (f (sym (number-pulled e o.region o.buffer o.answer) ∙ h))
breaks e false g o n i f h = absurd (omega (arith, h))

pub refusals : Refusals
unfolding step rule read_from
refusals =
    record {
      plain = λ e c d k. plainly (effect e c) d k;
      broken = λ e rx b h.
          let g : Ring = receive_ring e in
          let w : ℕ = index_at rx (write_index_at g) in
          let o : RingOutcome = answer (ringPull (length rx) g e.read (length b)) rx in
          rw (pull-answer e (length rx) (length b) rx)
          (breaks e (whole e e.rx (length rx)) g o (used e.rx.data_length e.read w) w (ring_refusals.pull_9 (length rx) g e.read (length b) rx)
          (rw (pull-answer e (length rx) (length b) rx) at h));
    }

-- ---- open ends

pub numbers_stay : NumbersStay
numbers_stay e c = go (effect e c)
  where
    go : {f : Given → RunChange} {p : Part} {o : Outcome} → Effect f e p o → SameNumbers e o.next
    go (refuses n h) = same_numbers
    go (drops n i ws q o r) = (reads_to e o i r).numbers
    go (accepts z o p m) = m.numbers

pub moved_open : {e e' : End} {d : RunChange} → EndChange e d e' → is_open e ≡ true → is_open e' ≡ true
unfolding is_open
moved_open {e} {e'} m o =
    let z = sound e o in
    let n = m.numbers in
    rw (n.alignment, n.tx, n.rx) (each (sound_numbers e.alignment e.tx e.rx e'.write e'.read) (z.0, (z.1.0, (z.1.1.0, (m.writes, (m.reads, z.1.1.1.1.1))))))

-- every call keeps an end open, or closed
pub open_stays : OpenStays
open_stays e c = go (effect e c)
  where
    go : {f : Given → RunChange} {p : Part} {o : Outcome} → Effect f e p o → is_open o.next ≡ is_open e
    go (refuses n h) = refl
    go (drops n i ws q o r) = moved_open (reads_to e o i r) o ∙ sym o
    go (accepts z o p m) = moved_open m o ∙ sym o

-- OPEN. After any calls an end is open exactly if its opening was accepted.
pub open_after : OpenExactly
open_after o cs = go (opening o).next cs ∙ open_exactly o
  where
    go : (e : End) (cs : List Call) → is_open (left e cs) ≡ is_open e
    go e [] = refl
    go e (c ∷ cs) = go (step e c).next cs ∙ open_stays e c
