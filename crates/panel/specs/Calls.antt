-- Ring calls on the numbers that a region is opened with (docs/RULES.md, C2, C6): the checks of its layout, then 6, then the ring's own.
use Rattle.std.specs.Prelude.{ℕ, ◌-◌, ◌≤◌, ◌<◌, Result, Ok, Err, List, ◌≡◌, eqb, length}
use Rattle.wire.specs.Choice.{check, passed}
use Rattle.wire.specs.Reads.{answer}
use Rattle.refusal.specs.Numbers.{number_of}
use Rattle.refusal.specs.declared.Refusal.{Refusal}
use Rattle.region.specs.Layout.{Outcome as Layout}
use Rattle.icmsg.specs.Rules.{Outcome, refusal, start_rule, push_rule, pull_rule, receive_rule}
use Rattle.icmsg.specs.declared.Ring.{Ring}

-- a slice of n bytes for the region from begin to end, whose layout is y
unfoldable pub open_number : Layout → ℕ → ℕ → ℕ → ℕ
open_number y begin end n = passed y.number (check (eqb n (end - begin)) 6 0) (λ k. k)

-- the ring in it; a slice's first byte is at begin
abbrev pub ring_in : Layout → ℕ → ℕ → Ring
ring_in y begin a = record { offset = y.begin - begin; alignment = a; data_length = y.data_length }

-- in a slice of n bytes
unfoldable pub start_call : Layout → ℕ → ℕ → ℕ → ℕ → Outcome
start_call y begin end a n = passed (open_number y begin end n) (start_rule n (ring_in y begin a)) refusal

unfoldable pub push_call : Layout → ℕ → ℕ → ℕ → ℕ → List ℕ → List ℕ → Outcome
push_call y begin end a own s c = passed (open_number y begin end (length s)) (push_rule s (ring_in y begin a) own c) refusal

-- into a buffer of b bytes
unfoldable pub pull_call : Layout → ℕ → ℕ → ℕ → ℕ → List ℕ → ℕ → Outcome
pull_call y begin end a own s b = passed (open_number y begin end (length s)) (answer (pull_rule (length s) (ring_in y begin a) own b) s) refusal

unfoldable pub receive_call : Layout → ℕ → ℕ → ℕ → ℕ → List ℕ → ℕ → Outcome
receive_call y begin end a own s b = passed (open_number y begin end (length s)) (answer (receive_rule (length s) (ring_in y begin a) own b) s) refusal

-- of an accepted layout: its region has bytes, and its ring begins in them
abbrev pub LiesIn : ℕ → ℕ → Layout → Type 0
LiesIn begin end y = y.number ≡ 0 → (begin < end) × (begin ≤ y.begin)

-- what the code's opening says: the number, and the ring where it is 0
abbrev pub opened_number : Result Ring Refusal → ℕ
opened_number (Ok g) = 0
opened_number (Err x) = number_of x

abbrev pub OpensRing : Result Ring Refusal → Ring → Type 0
OpensRing (Ok g) h = g ≡ h
OpensRing (Err x) h = Unit {0}

-- a call on the ring, where it is there
abbrev pub on_ring : Result Ring Refusal → (Ring → Outcome) → Outcome
on_ring (Ok g) f = f g
on_ring (Err x) f = refusal (number_of x)
