-- Send, done and register: what the code's ring has made of a control message, and the rule behind the ring.
use Prim.Native.Nat.{ℕ, ◌+◌, ◌≤◌}
use mathlib.Core.Path.{◌≡◌, refl, sym, ap, ◌∙◌}
use mathlib.Core.List.{List, [], ◌∷◌, ◌++◌}
use Rattle.std.specs.Prelude.{Result, Ok, Err}
use native.Mathlib.Omega.{arith}
use lib.ListN.{length, take}
use borrow.Author.Tests.{le-leb}
use Rattle.wire.specs.Bytes.{straight, bytes, writes, wrote}
use Rattle.wire.proofs.Positions.{length-wrote, bytes-all, bytes-first, bytes_read_back}
use Rattle.refusal.specs.Numbers.{number_of}
use Rattle.refusal.specs.declared.Refusal.{Refusal}
use Rattle.icmsg.specs.Rules.{Answer as RingAnswer, refused as ringNo, accepted as ringYes, dropped as ringDropped, Outcome as RingOutcome, behind_writes, announce_rule, push_rule as ringPush}
use Rattle.icmsg.specs.Laws.{PlainAt}
use Rattle.icmsg.specs.declared.Ring.{Ring}
use Rattle.icmsg.proofs.Indexes.{refusals}
use Rattle.endpoints.specs.declared.Endpoint.{Endpoint}
use Rattle.endpoints.specs.declared.Binding.{Binding}
use Rattle.icbmsg.specs.Outcome.{nothing, control, Outcome, refused, accepted, written, without_writes}
use Rattle.icbmsg.specs.Ends.{changed, with_write}
use Rattle.icbmsg.specs.Rings.{ring_of, handed_on, with_packet, all_or_nothing}
use Rattle.icbmsg.specs.declared.Numbers.{Numbers}
use Rattle.icbmsg.specs.End.{End}
use Rattle.icbmsg.proofs.AllOrNothing.{handed-answer}
use Rattle.checks.specs.Parts.{joined}
use Rattle.link.specs.Answers.{writing}
use Rattle.link.specs.Parts.{HandedAs, HandsOn, behind_ring}

-- ---- the rule behind the ring

-- what is refused before the ring
pub before_ring : (e : End) (tx : List ℕ) (o : Outcome) (m : ℕ) → o ≡ refused e m → (refused e m ≡ without_writes (behind_ring e tx o)) × (tx ≡ wrote tx (behind_ring e tx o).tx)
unfolding wrote all_or_nothing
before_ring e tx o m h = (rw h, rw h)

-- what has nothing to push, and writes nothing
pub not_to_push : (e x : End) (tx : List ℕ) (o : Outcome) → o ≡ accepted x nothing → (accepted x nothing ≡ without_writes (behind_ring e tx o)) × (tx ≡ wrote tx (behind_ring e tx o).tx)
unfolding wrote all_or_nothing
not_to_push e x tx o h = (rw h, rw h)

handed_no : (e : End) (o : Outcome) (ws : List (ℕ × ℕ)) (y : Refusal) (a : RingAnswer) → HandedAs (Err y) a → handed_on e o ws a ≡ refused e (number_of y)
handed_no e o ws y (ringNo n) h = rw h
handed_no e o ws y (ringYes k i) h = absurd h
handed_no e o ws y (ringDropped n i) h = rw h

handed_yes : (e : End) (o : Outcome) (ws : List (ℕ × ℕ)) (w : ℕ) (a : RingAnswer) → HandedAs (Ok w) a → handed_on e o ws a ≡ with_packet o ws w
handed_yes e o ws w (ringNo n) h = absurd h
handed_yes e o ws w (ringYes k i) h = rw h
handed_yes e o ws w (ringDropped n i) h = absurd h

-- The rule gives a control message, leaves the end x and writes ws; the code's ring has answered h to the push of c, behind the writes vs.
module _ (n : Numbers) (t : List ℕ) (ps : List Endpoint) (bs : List Binding) (tx tx' : List ℕ) (o : Outcome) (x : End) (k a b : ℕ) (vs ws : List (ℕ × ℕ)) (c : List ℕ) (h : Result ℕ Refusal)
    (q : o ≡ written x (control k a b) ws) (same : vs ≡ ws) (is : c ≡ k ∷ a ∷ b ∷ []) (m : HandsOn h n tx vs c tx') where
  on_ring : let p : RingOutcome = ringPush tx (ring_of n.alignment n.tx) n.write c in
      behind_ring (joined n t ps bs) tx o ≡ handed_on (joined n t ps bs) (written x (control k a b) ws) p.region p.answer
  unfolding all_or_nothing
  on_ring = rw (q, is) (handed-answer (joined n t ps bs) tx (written x (control k a b) ws) k a b)

  pub ring_refuses : (y : Refusal) → h ≡ Err y → let r : Outcome = behind_ring (joined n t ps bs) tx o in (refused (joined n t ps bs) (number_of y) ≡ without_writes r) × (tx' ≡ wrote tx r.tx)
  unfolding wrote
  ring_refuses y z =
      let w = rw z at m in
      let p : RingOutcome = ringPush tx (ring_of n.alignment n.tx) n.write c in
      let r = on_ring ∙ handed_no (joined n t ps bs) (written x (control k a b) ws) p.region y p.answer w.0 in
      (rw r, w.1 ∙ ap (λ (o : Outcome). wrote tx o.tx) (sym r))

  pub ring_takes : (i : ℕ) → h ≡ Ok i → let r : Outcome = behind_ring (joined n t ps bs) tx o in (accepted (with_write x i) (control k a b) ≡ without_writes r) × (tx' ≡ wrote tx r.tx)
  ring_takes i z =
      let w = rw z at m in
      let p : RingOutcome = ringPush tx (ring_of n.alignment n.tx) n.write c in
      let r = on_ring ∙ handed_yes (joined n t ps bs) (written x (control k a b) ws) p.region i p.answer w.0 in
      (rw r, w.1 ∙ ap (λ (us : List (ℕ × ℕ)). wrote tx (us ++ p.region)) same ∙ ap (λ (y : Outcome). wrote tx y.tx) (sym r))

-- ---- what the ring has made of it

module _ (n : Numbers) (c s s' : List ℕ) (x : RingAnswer) where
  abbrev p : RingOutcome
  p = ringPush s (ring_of n.alignment n.tx) n.write c

  -- a push alone
  pub hands_alone : (h : Result ℕ Refusal) → HandedAs h x → x ≡ p.answer → s' ≡ wrote s p.region → HandsOn h n s [] c s'
  unfolding wrote
  hands_alone (Ok w) y q z = (rw (← q) y, z)
  hands_alone (Err v) y q z = (rw (← q) y, z ∙ quiet p.answer (rw q at y) (refusals.push s (ring_of n.alignment n.tx) n.write c))
    where
      quiet : (a : RingAnswer) → HandedAs (Err v) a → PlainAt p a → wrote s p.region ≡ s
      quiet (ringNo m) y k = rw k.1
      quiet (ringYes m i) y k = absurd y
      quiet (ringDropped m i) y k = absurd k

  -- and behind the writes ws
  pub hands_behind : (ws : List (ℕ × ℕ)) (h : Result ℕ Refusal) → HandedAs h x → x ≡ (behind_writes ws p p.answer).answer → s' ≡ wrote s (behind_writes ws p p.answer).region → HandsOn h n s ws c s'
  unfolding wrote
  hands_behind ws h y q z = go h p.answer refl (refusals.push s (ring_of n.alignment n.tx) n.write c) (rw q at y) z
    where
      go : (h : Result ℕ Refusal) (a : RingAnswer) → p.answer ≡ a → PlainAt p a → HandedAs h (behind_writes ws p a).answer → s' ≡ wrote s (behind_writes ws p a).region → HandsOn h n s ws c s'
      go (Ok w) (ringNo m) r k y z = absurd (rw r at y)
      go (Ok w) (ringYes m i) r k y z = (rw r y, z)
      go (Ok w) (ringDropped m i) r k y z = absurd k
      go (Err v) (ringNo m) r k y z = (y, z ∙ rw k.1)
      go (Err v) (ringYes m i) r k y z = absurd y
      go (Err v) (ringDropped m i) r k y z = absurd k

-- a message that lies in the region
pub announced-inside : (s : List ℕ) (g : Ring) (w p : ℕ) (bs c : List ℕ) → p + length bs ≤ length s → announce_rule s g w p bs c ≡ behind_writes (writes (straight p) bs) (ringPush s g w c) (ringPush s g w c).answer
unfolding announce_rule
announced-inside s g w p bs c h = rw (le-leb (p + length bs) (length s) h)

-- ---- the end that is left

-- the end with its own write index
pub joined-writing : (n : Numbers) (t : List ℕ) (ps : List Endpoint) (bs : List Binding) (w : ℕ) (x : End) → joined n t ps bs ≡ x → joined (writing n w) t ps bs ≡ with_write x w
unfolding changed
joined-writing n t ps bs w x h = rw (← h)

-- a control message by another name of its address
pub same_address : (x : End) (k a a' b : ℕ) (r : Outcome) → a ≡ a' → accepted x (control k a' b) ≡ r → accepted x (control k a b) ≡ r
same_address x k a a' b r q h = rw q h

-- ---- a message made ready in an array

-- bytes written to its begin are read there
read-there : (z bs : List ℕ) → length bs ≤ length z → bytes (wrote z (writes (straight 0) bs)) (straight 0) (length bs) ≡ bs
read-there z bs h = bytes_read_back z (straight 0) bs (λ j l. omega (arith, h, l)) (λ i j l m e. omega (arith, l, e))

pub made_ready : (z bs : List ℕ) (k : ℕ) → k ≡ length bs → k ≤ length z → take k (wrote z (writes (straight 0) bs)) ≡ bs
made_ready z bs k q h =
    sym (bytes-first (wrote z (writes (straight 0) bs)) k (rw (length-wrote z (writes (straight 0) bs)) h)) ∙ rw q (read-there z bs (rw q at h))

-- all of it
pub filled : (z bs : List ℕ) → length bs ≡ length z → wrote z (writes (straight 0) bs) ≡ bs
filled z bs q =
    sym (bytes-all (wrote z (writes (straight 0) bs)))
    ∙ ap (λ (k : ℕ). bytes (wrote z (writes (straight 0) bs)) (straight 0) k) (length-wrote z (writes (straight 0) bs) ∙ sym q)
    ∙ read-there z bs (omega (arith, q))
