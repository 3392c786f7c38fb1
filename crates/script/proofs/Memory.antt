-- A call that is lent the first bytes of the memory.
use Prim.Native.Nat.{ℕ, ◌≤◌, min}
use mathlib.Core.Bool.{Bool, true, false}
use mathlib.Core.Path.{◌≡◌, refl, sym, ◌∙◌}
use mathlib.Core.List.{List}
use native.Mathlib.Omega.{arith}
use native.Mathlib.Nat.{min-eq_left, min-eq_right}
use lib.Dec.{leb}
use borrow.Author.Tests.{leb-true, leb-false}
use lib.ListN.{length, take, length-take}
use lib.Seq.{take-length, take_all}
use Rattle.wire.specs.Reads.{answer}
use Rattle.icbmsg.specs.Outcome.{Outcome, without_writes}
use Rattle.icbmsg.specs.Rings.{pull_rule}
use Rattle.icbmsg.specs.Calls.{rule, lent, read_from, step, pull}
use Rattle.icbmsg.specs.End.{End}
use Rattle.link.specs.Answers.{end_of}
use Rattle.link.specs.declared.End.{End as CodeEnd}
use Rattle.script.specs.Calls.{call_outcome, called, RanAs}
use Rattle.script.specs.declared.kinds.CallKind.{CallKind}

-- so many are lent
pub length-first : (l : List ℕ) (n : ℕ) → n ≤ length l → n ≡ length (take n l)
length-first l n h = simp length-take (omega arith)

-- never more than there are
pub first_least : (l : List ℕ) (n m : ℕ) → m ≡ min n (length l) → take m l ≡ take n l
first_least l n m e = rw e (go (leb n (length l)) refl)
  where
    go : (b : Bool) → leb n (length l) ≡ b → take (min n (length l)) l ≡ take n l
    go true h = rw (min-eq_left (leb-true n (length l) h))
    go false h =
        let le : length l ≤ n = omega (arith, leb-false n (length l) h) in
        rw (min-eq_right le) (take-length l ∙ sym (take_all n l le))

-- a pull into the first n bytes of the buffer
pub pulled_as : (e : End) (rx buffer : List ℕ) (n m : ℕ) → m ≡ min n (length buffer) → (o : Outcome) →
    o ≡ without_writes (answer (pull_rule e (length rx) (length (take m buffer))) rx) → o ≡ without_writes (step e (pull rx (take n buffer)))
unfolding step rule read_from lent
pulled_as e rx buffer n m h o k = rw (← (first_least buffer n m h)) k

-- what a record that is a call leaves beside the memory
pub calls : (e : End) (n m : ℕ) (b tx rx buffer : List ℕ) (k : CallKind) (i j : ℕ) → i ≡ min n (length tx) → j ≡ min m (length rx) → (r : List ℕ) (e' : CodeEnd) →
    RanAs r e' (call_outcome e k b (take i tx) (take j rx) buffer) → record { reply = r; end = end_of e'; lent_tx = n; lent_rx = m } ≡ called (call_outcome e k b (take n tx) (take m rx) buffer) n m
calls e n m b tx rx buffer k i j p q r e' h = rw (← (first_least tx n i p), ← (first_least rx m j q), h.reply, h.end)
