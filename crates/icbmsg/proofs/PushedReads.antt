-- What a call that pushes reads of the transmit region: the partner's index, if it looks at the ring.
use Prim.Native.Nat.{ℕ, ◌+◌, ◌-◌}
use mathlib.Core.Bool.{Bool, true, false}
use mathlib.Core.Path.{◌≡◌, refl, ◌∙◌}
use mathlib.Core.List.{List, [], ◌∷◌, append-nil}
use lib.Dec.{leb}
use lib.ListN.{length}
use Rattle.wire.specs.Choice.{passed, check as tested}
use Rattle.wire.specs.Bytes.{bytes}
use Rattle.wire.specs.Reads.{Reads, gives, answer, positions_read, and_then}
use Rattle.icmsg.specs.Ring.{read_index_at, index_at, in_rule, is_sound, used, packet_length}
use Rattle.icmsg.specs.Rules.{Outcome as RingOutcome, refusal, pushed as ringPushed, push_tree as ringPush}
use Rattle.icmsg.specs.Reading.{partner_index}
use Rattle.icmsg.specs.declared.Ring.{Ring}
use Rattle.icbmsg.specs.Outcome.{Given, nothing, a_length, dropped, a_run, control, delivery, Outcome}
use Rattle.icbmsg.specs.Rings.{transmit_ring, handed_on, pushing, all_or_nothing}
use Rattle.icbmsg.specs.Reading.{push_positions, of_push}
use Rattle.icbmsg.specs.End.{End}
use Rattle.icbmsg.proofs.BeforeRing.{ring_sound, BeforeRing}
use Rattle.wire.proofs.Trees.{positions_read-and_then}

-- a rule that goes on with an answer reads what it read before
pub positions_read-map : {A : Type 0} (t : Reads A) (f : A → Outcome) (r : List ℕ) → positions_read (and_then t (λ a. gives (f a))) r ≡ positions_read t r
positions_read-map t f r = positions_read-and_then t (λ a. gives (f a)) r ∙ append-nil (positions_read t r)

-- a control message: past the checks of its rule the ring's own 6 and 11 do not come up
control_cases : (e : End) (o : Outcome) (g : Ring) (ps c : List ℕ) (i l : Bool) (k a b : ℕ) → o.given ≡ control k a b → let p : RingOutcome = passed (tested i 7 (tested l 10 0)) (ringPushed [] g e.write c) refusal in
    ps ≡ push_positions ps (handed_on e o p.region p.answer).number (handed_on e o p.region p.answer).given
control_cases e o g ps c true true k a b q = rw q
control_cases e o g ps c true false k a b q = refl
control_cases e o g ps c false l k a b q = refl

control-reads : (e : End) (tx : List ℕ) (o : Outcome) (k a b : ℕ) → o.given ≡ control k a b → is_sound (length tx) (transmit_ring e) e.write ≡ true →
    positions_read (pushing e (length tx) o (control k a b)) tx ≡ of_push e (answer (pushing e (length tx) o (control k a b)) tx)
unfolding ringPush index_at bytes
control-reads e tx o k a b q h =
    let r : ℕ = index_at tx (read_index_at (transmit_ring e)) in
    rw h
    (control_cases e o (transmit_ring e) (partner_index (transmit_ring e)) (k ∷ a ∷ b ∷ []) (in_rule e.tx.data_length r) (leb (packet_length 3 + used e.tx.data_length r e.write) (e.tx.data_length - 1)) k a b q)

pub pushed-reads : (e : End) (tx : List ℕ) (o : Outcome) → BeforeRing e (length tx) o → positions_read (all_or_nothing e (length tx) o) tx ≡ of_push e (answer (all_or_nothing e (length tx) o) tx)
unfolding all_or_nothing
pushed-reads e tx o z = go o.given refl
  where
    go : (g : Given) → o.given ≡ g → positions_read (pushing e (length tx) o g) tx ≡ of_push e (answer (pushing e (length tx) o g) tx)
    go nothing q = rw (q, z.number)
    go (a_length k) q = rw q
    go (dropped n) q = rw q
    go (a_run s n) q = rw q
    go (control k a b) q = control-reads e tx o k a b q (ring_sound e (length tx) (z.lent (k ∷ a ∷ b ∷ []) (rw q)))
    go (delivery a b k) q = rw q
