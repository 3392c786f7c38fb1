-- All or nothing: a rule's control message is pushed with what the rule does, or nothing is done. And what is asked of the ring then.
use Prim.Native.Nat.{ℕ}
use mathlib.Core.Path.{◌≡◌, refl, sym, ap, subst, ◌∙◌}
use mathlib.Core.List.{List, [], ◌∷◌}
use native.Mathlib.Omega.{arith}
use lib.ListN.{length}
use Rattle.wire.specs.Choice.{pick}
use Rattle.wire.specs.Reads.{answer}
use Rattle.wire.proofs.Trees.{answer-unless, answer-and_then}
use Rattle.icmsg.specs.Rules.{Answer, refused as ringNo, accepted as ringYes, dropped as ringDropped, Outcome as RingOutcome, push_writes, pushed as ringPushed, push_rule as ringPush}
use Rattle.icmsg.specs.Ring.{read_index_at, index_at, behind}
use Rattle.icmsg.specs.Laws.{PlainAt}
use Rattle.icmsg.specs.declared.Ring.{Ring}
use Rattle.icmsg.proofs.Indexes.{push-passed, refusals}
use Rattle.icmsg.proofs.PushReads.{push_reads_the_index}
use Rattle.icbmsg.specs.Outcome.{Given, nothing, a_length, dropped, a_run, control, delivery, Outcome, ring_refused}
use Rattle.icbmsg.specs.Ends.{whole}
use Rattle.icbmsg.specs.Rings.{transmit_ring, pushed, push_rule, handed_on, pushing, all_or_nothing}
use Rattle.icbmsg.specs.Pushing.{contents, PushedOrNot, nothing_to_push, not_pushed, is_pushed, AllOrNothing}
use Rattle.icbmsg.specs.End.{End}

-- ---- the ring's answer on the transmit bytes

-- push
pub push-answer : (e : End) (c tx : List ℕ) → answer (push_rule e (length tx) c) tx ≡ pick (whole e e.tx (length tx)) (pushed e (ringPush tx (transmit_ring e) e.write c)) (ring_refused e 6)
unfolding push_rule
push-answer e c tx = rw (answer-unless, answer-and_then, push_reads_the_index.answers (transmit_ring e) e.write c tx)

-- a control message
pub handed-answer : (e : End) (tx : List ℕ) (o : Outcome) (k a b : ℕ) → let p : RingOutcome = ringPush tx (transmit_ring e) e.write (k ∷ a ∷ b ∷ []) in
    answer (pushing e (length tx) o (control k a b)) tx ≡ handed_on e o p.region p.answer
handed-answer e tx o k a b = rw (answer-and_then, push_reads_the_index.answers (transmit_ring e) e.write (k ∷ a ∷ b ∷ []) tx)

-- an accepted push: its packet, and the index behind it
pub push-puts : (tx : List ℕ) (g : Ring) (w : ℕ) (c : List ℕ) (k i : ℕ) → (ringPush tx g w c).answer ≡ ringYes k i → ((ringPush tx g w c).region ≡ push_writes g w c) × (i ≡ behind g.data_length w (length c))
unfolding ringPush
push-puts tx g w c k i h =
    let q = (push-passed (length tx) g (index_at tx (read_index_at g)) w (length c) (ringPushed [] g w c) k i h).is in
    let a : ringYes (length c) (behind g.data_length w (length c)) ≡ ringYes k i = sym (ap (λ (x : RingOutcome). x.answer) q) ∙ h in
    (ap (λ (x : RingOutcome). x.region) q, cc)

-- ---- THE LAW

handed : (e : End) (tx : List ℕ) (o : Outcome) (c : List ℕ) (p : RingOutcome) (a : Answer) → contents o.given ≡ c ∷ [] → ringPush tx (transmit_ring e) e.write c ≡ p → p.answer ≡ a → PlainAt p a →
    PushedOrNot e tx o (handed_on e o p.region a)
handed e tx o c p (ringNo n) q r z h = not_pushed c n q (r ∙ h.1) h.0
handed e tx o c p (ringYes k i) q r z h =
    subst (λ (x : RingOutcome). PushedOrNot e tx o (handed_on e o x.region (ringYes k i))) r (is_pushed c k i q (ap (λ (x : RingOutcome). x.answer) r ∙ z))
handed e tx o c p (ringDropped n i) q r z h = absurd h

pub all_or_nothing_lem : AllOrNothing
unfolding all_or_nothing
all_or_nothing_lem e tx o = go o.given refl
  where
    go : (g : Given) → o.given ≡ g → PushedOrNot e tx o (answer (pushing e (length tx) o g) tx)
    go nothing q = nothing_to_push (rw q)
    go (a_length k) q = nothing_to_push (rw q)
    go (dropped n) q = nothing_to_push (rw q)
    go (a_run s n) q = nothing_to_push (rw q)
    go (control k a b) q =
        let c : List ℕ = k ∷ a ∷ b ∷ [] in
        let p : RingOutcome = ringPush tx (transmit_ring e) e.write c in
        rw (handed-answer e tx o k a b) (handed e tx o c p p.answer (rw q) refl refl (refusals.push tx (transmit_ring e) e.write c))
    go (delivery a b k) q = nothing_to_push (rw q)

-- no list is empty and is not
pub not_both : {A : Type 0} {x : A} {xs : List A} → [] ≡ x ∷ xs → ⊥
not_both q = omega (arith, ap length q)
