-- No name and no address is used twice, and each binding sent belongs to one endpoint, in every end that is reached.
use Prim.Native.Nat.{ℕ, zero, suc, ◌+◌, ◌*◌, ◌≤◌, ◌<◌, min}
use mathlib.Core.Bool.{Bool, true, false, not, ◌&&◌, false≢true}
use mathlib.Core.Path.{◌≡◌, refl, sym, ap, ◌∙◌}
use mathlib.Core.Logic.{◌≢◌}
use mathlib.Core.List.{List, [], ◌∷◌}
use native.Mathlib.Omega.{arith}
use lib.Dec.{leb, ltb, eqb}
use lib.ListN.{length, get_or, set, replicate}
use lib.Seq.{get_or-set_same, get_or-set_other}
use borrow.Author.Tests.{eqb-true, leb-true, le-leb, eq-eqb, ne_eqb, not-true}
use Rattle.wire.specs.Choice.{pick}
use Rattle.wire.specs.Reads.{answer}
use Rattle.wire.proofs.Choices.{both, and_false, or_true}
use Rattle.wire.proofs.Sameness.{same_true, same_self}
use Rattle.wire.specs.Bytes.{same}
use Rattle.icmsg.specs.Rules.{Outcome as RingOutcome, Answer, refused as ringNo, accepted as ringYes, dropped as ringDropped, push_rule as ringPush, start_rule as ringStart, pull_rule as ringPull}
use Rattle.icbmsg.specs.Outcome.{nothing, delivery, Outcome, ring_refused, refused, accepted, check, guard}
use Rattle.blocks.specs.Search.{Search, nowhere, found_at, is_found}
use Rattle.blocks.specs.Tables.{entry, is_use, in_use, lies, starts, starts_data, free_entry, run_entry, freed, taken, blocks_for, free_run}
use Rattle.endpoints.specs.Endpoints.{uses, no_endpoint, no_binding, at, is_unused, is_waiting, is_bound, has_address, bound_at, receives_at, registered, waiting_for, holds, clashes, clashes_stored, endpoint_at, binding_at, some_endpoint, some_binding, unused_from, good_name, waiting_at, bound_now}
use Rattle.endpoints.proofs.Bound.{bound_is}
use Rattle.icbmsg.specs.Ends.{is_open, whole, found_or, changed}
use Rattle.icbmsg.specs.declared.Opening.{Opening}
use Rattle.icbmsg.specs.Rings.{transmit_ring, receive_ring, push_outcome, pull_outcome, start_of}
use Rattle.icbmsg.specs.Messages.{reserve_of, room_of, send_of, drop_of, view_of, done_of, room_question, view_question}
use Rattle.icbmsg.specs.Registering.{followed, initiates, register_of}
use Rattle.icbmsg.specs.Arrivals.{decode, fits_area, are_free, receiver, release_of, released_bound_of, bound_to, bound_named, bound_rule, decoded_rule, arrival_rule, data_rule}
use Rattle.icbmsg.specs.declared.Control.{Control}
use Rattle.icbmsg.specs.declared.Control.TheVariants.{TooShort, UnknownKind, DataSent, DataReleased, BindingSent, BindingReleased}
use Rattle.icbmsg.specs.Calls.{Call, start, push, pull, reserve, room, send, drop, arrival, view, done, register, ask_room, ask_view, rule, read_from, step}
use Rattle.icbmsg.specs.Reading.{size_in, content_at}
use Rattle.blocks.specs.WellFormed.{leading, block_kind, Live}
use Rattle.icbmsg.specs.WellFormed.{binding_of, IsKept, Separate}
use Rattle.icbmsg.specs.Theorems.{Reached, opened, called}
use Rattle.icbmsg.specs.Names.{endpoint_of, is_used, IsAnnounced, Once, UsedOnce, NamesKept}
use Rattle.icbmsg.specs.Completion.{completes, is_release, arrives}
use Rattle.blocks.proofs.LeastBlocks.{blocks_least, blocks-one}
use Rattle.blocks.proofs.Tables.{every, use_is, Taken, its_first, its_later, apart, Freed, gone, free-at, first_entry, freed-live, freed-stays, freed-view, freed-free, taken-stays, taken-view, free_law}
use Rattle.icbmsg.proofs.ArrivingBytes.{with_name, bound_flat, data_flat}
use Rattle.blocks.specs.Names.{Name, endless, name, name_in, padded_name}
use Rattle.icbmsg.specs.Pushing.{PushedOrNot, nothing_to_push, not_pushed, is_pushed}
use Rattle.icbmsg.proofs.AllOrNothing.{push-answer, all_or_nothing_lem}
use Rattle.icbmsg.proofs.RulesRead.{pull-answer}
use Rattle.blocks.proofs.Search.{first-at, lowest-at}
use Rattle.icbmsg.proofs.Effects.{sound, whole_open}
use Rattle.icbmsg.proofs.Separate.{Is, that, another, is, Opens, opens, shuts, how_opened, separate}
use Rattle.icbmsg.proofs.Addresses.{address_lowest}
use Rattle.icbmsg.proofs.Once.{none_passes, not_found, found_nowhere, found-same, each_set, placed_once, changed_once, stored_once, taken_over}
use Rattle.icbmsg.proofs.NothingAdded.{stored-holds}
use Rattle.blocks.specs.declared.Use.{Use}
use Rattle.blocks.specs.declared.Use.TheVariants.{Reserved, SentData, SentBinding, ReceivedData}
use Rattle.endpoints.specs.declared.Stage.{Stage}
use Rattle.endpoints.specs.declared.Stage.TheVariants.{Unused, Waiting, Bound}
use Rattle.blocks.specs.declared.Entry.{Entry}
use Rattle.endpoints.specs.declared.Endpoint.{Endpoint}
use Rattle.endpoints.specs.declared.Binding.{Binding}
use Rattle.icbmsg.specs.declared.Region.{Region}
use Rattle.icbmsg.specs.End.{End}

-- ---- the invariant

abbrev OnceNamed : List Endpoint → List Binding → Type 0
OnceNamed = Once is_used (λ p. p.name) (λ b. b.name)

-- addresses, of the endpoints that pass
abbrev OnceAt : (Endpoint → Bool) → List Endpoint → List Binding → Type 0
OnceAt test = Once test (λ p. p.address) (λ b. b.address)

-- those that pass have an address of at most 0xFD
abbrev Low : (Endpoint → Bool) → Endpoint → Type 0
Low test p = test p ≡ true → p.address ≤ 0xFD

abbrev LowStored : Binding → Type 0
LowStored b = b.stored ≡ true → b.address ≤ 0xFD

-- endpoint i is in use with address a
abbrev UsesAt : List Endpoint → ℕ → ℕ → Type 0
UsesAt ps a i = (i < 8) × (is_used (endpoint_of ps i) ≡ true) × ((endpoint_of ps i).address ≡ a)

-- the binding of address a is sent in the run at s
abbrev SentFor : List Entry → ℕ → ℕ → Type 0
SentFor t s a = IsAnnounced t s × ((entry t s).address ≡ a)

-- An initiator stores no binding, an address is one endpoint's, and each binding sent has its own, which an endpoint uses. Each endpoint that
-- waits has its binding still sent; one that data has bound may have.
record Leads (t : List Entry) (ps : List Endpoint) (bs : List Binding) : Type 0 where
  none-stored : (j : ℕ) → IsKept bs j → ⊥
  addresses : OnceAt is_used ps bs
  low : (i : ℕ) → Low is_used (endpoint_of ps i)
  used : (s : ℕ) → IsAnnounced t s → (i : ℕ) × UsesAt ps (entry t s).address i
  sent : (i : ℕ) → at is_waiting (endpoint_of ps i) ≡ true → (s : ℕ) × SentFor t s (endpoint_of ps i).address
  runs : (s s' : ℕ) → IsAnnounced t s → IsAnnounced t s' → (entry t s).address ≡ (entry t s').address → s ≡ s'

-- A follower sends no binding. Those that wait have no address yet.
record Follows (t : List Entry) (ps : List Endpoint) (bs : List Binding) : Type 0 where
  none-sent : (s : ℕ) → IsAnnounced t s → ⊥
  addresses : OnceAt (at is_bound) ps bs
  low : (i : ℕ) → Low (at is_bound) (endpoint_of ps i)
  low_stored : (j : ℕ) → LowStored (binding_of bs j)

data Role (t : List Entry) (ps : List Endpoint) (bs : List Binding) : Bool → Type 0 where
  leads : Leads t ps bs → Role t ps bs true
  follows : Follows t ps bs → Role t ps bs false

record Inv (initiator : Bool) (t : List Entry) (ps : List Endpoint) (bs : List Binding) : Type 0 where
  names : OnceNamed ps bs
  role : Role t ps bs initiator

-- ---- stages

waiting_used : (s : Stage) → is_waiting s ≡ true → not (is_unused s) ≡ true
waiting_used Unused h = absurd (false≢true h)
waiting_used Waiting h = refl
waiting_used Bound h = refl

pub bound_used : (s : Stage) → is_bound s ≡ true → not (is_unused s) ≡ true
bound_used Unused h = absurd (false≢true h)
bound_used Waiting h = refl
bound_used Bound h = refl

bound_not : (s : Stage) → is_bound s ≡ true → is_waiting s ≡ true → ⊥
bound_not Unused h k = false≢true h
bound_not Waiting h k = false≢true h
bound_not Bound h k = false≢true k

-- in use: waiting or bound
neither : (s : Stage) → (is_waiting s ≡ true → ⊥) → (is_bound s ≡ true → ⊥) → not (is_unused s) ≡ true → ⊥
neither Unused f g h = false≢true h
neither Waiting f g h = f refl
neither Bound f g h = g refl

used_bound : (s : Stage) → not (is_unused s) ≡ true → (is_waiting s ≡ true → ⊥) → is_bound s ≡ true
used_bound Unused h f = h
used_bound Waiting h f = absurd (f refl)
used_bound Bound h f = refl

-- p, bound if b says so
abbrev pub bound_if : Bool → Endpoint → Endpoint
bound_if true p = record { stage = Bound; address = p.address; name = p.name }
bound_if false p = p

-- ---- the changes that keep it

-- another use
not_announced : {u : Use} → u ≡ SentBinding → is_use SentBinding u ≡ false → ⊥
not_announced {u} h k = false≢true (sym k ∙ rw h)

-- the bindings that are sent are the same
same_sent : {r : Bool} {t t' : List Entry} {ps : List Endpoint} {bs : List Binding} → Inv r t ps bs →
    ((s : ℕ) → IsAnnounced t' s → entry t' s ≡ entry t s) → ((s : ℕ) → IsAnnounced t s → entry t' s ≡ entry t s) → Inv r t' ps bs
same_sent {t = t} {t'} {ps} {bs} v same kept = record { names = v.names; role = go v.role }
  where
    go : {r : Bool} → Role t ps bs r → Role t' ps bs r
    go (leads l) =
        leads (record {
          none-stored = l.none-stored;
          addresses = l.addresses;
          low = l.low;
          used = λ s h. let q = same s h in rw q (l.used s (rw q at h));
          sent = λ i h. let z = l.sent i h in let q = kept z.0 z.1.0 in (z.0, rw q z.1);
          runs = λ s s' h h' q. l.runs s s' (rw (same s h) at h) (rw (same s' h') at h') (rw (same s h, same s' h') at q);
        })
    go (follows l) =
        follows (record {
          none-sent = λ s h. l.none-sent s (rw (same s h) at h);
          addresses = l.addresses;
          low = l.low;
          low_stored = l.low_stored;
        })

-- an initiator's endpoint i, unused before, waits at an address that no endpoint uses, and its binding is sent at s
announced_kept : {t t' : List Entry} {x : Entry} {n s : ℕ} {ps : List Endpoint} {bs : List Binding} → Leads t ps bs → length ps ≡ 8 → (i : ℕ) (p : Endpoint) → i < 8 → at is_unused (endpoint_of ps i) ≡ true →
    at is_waiting p ≡ true → p.address ≡ x.address → p.address ≤ 0xFD → ((j : ℕ) → is_used (endpoint_of ps j) ≡ true → (endpoint_of ps j).address ≡ p.address → ⊥) →
    ((k : ℕ) → Taken t t' x s n k) → x.usage ≡ SentBinding → entry t' s ≡ x → ((k : ℕ) → IsAnnounced t k → entry t' k ≡ entry t k) → Leads t' (set ps i p) bs
announced_kept {t} {t'} {x} {n} {s} {ps} {bs} l len i p li u pw pa pl unused v xs taken_here others-stay =
    record {
      none-stored = l.none-stored;
      addresses = placed_once l.addresses i p (omega arith) (λ _ j _ h q. unused j h q) (λ _ j k _. l.none-stored j k);
      low = each_set no_endpoint (Low is_used) ps i p (omega arith) l.low (λ _. pl);
      used = λ k h. used (v k) h;
      sent = λ j h. sent (is i j) h;
      runs = λ k k' h h' q. runs (v k) (v k') h h' q;
    }
  where
    at_i : endpoint_of (set ps i p) i ≡ p
    at_i = get_or-set_same ps i p no_endpoint (omega arith)

    -- those in use stay
    still : {a : ℕ} (j : ℕ) → UsesAt ps a j → UsesAt (set ps i p) a j
    still j w =
        let d : j ≢ i = λ (q : j ≡ i). false≢true (rw (q, u) at w.1) in
        rw (get_or-set_other ps i j p no_endpoint d) w

    used : {k : ℕ} → Taken t t' x s n k → IsAnnounced t' k → (j : ℕ) × UsesAt (set ps i p) (entry t' k).address j
    used (its_first e) h = (i, (li, rw at_i (waiting_used p.stage pw), rw (at_i, e) pa))
    used (its_later r r' e) h = absurd (not_announced (rw e at h) refl)
    used {k} (apart r e) h = let w = l.used k (rw e at h) in (w.0, rw e (still w.0 w.1))

    -- the new one is sent at s, and the others where they were
    sent : {j : ℕ} → Is i j → at is_waiting (endpoint_of (set ps i p) j) ≡ true → (k : ℕ) × SentFor t' k (endpoint_of (set ps i p) j).address
    sent that h = (s, rw (at_i, taken_here) (xs, sym pa))
    sent {j} (another d) h =
        let e = get_or-set_other ps i j p no_endpoint d in
        let z = l.sent j (rw e at h) in
        let q = others-stay z.0 z.1.0 in
        (z.0, rw (e, q) z.1)

    -- an older one has another address
    older : (k : ℕ) → entry t' k ≡ entry t k → IsAnnounced t' k → (entry t' k).address ≡ x.address → ⊥
    older k e h q = let w = l.used k (rw e at h) in unused w.0 w.1.1 (w.1.2 ∙ (rw e at q) ∙ sym pa)

    runs : {k k' : ℕ} → Taken t t' x s n k → Taken t t' x s n k' → IsAnnounced t' k → IsAnnounced t' k' → (entry t' k).address ≡ (entry t' k').address → k ≡ k'
    runs (its_later r r' e) w h h' q = absurd (not_announced (rw e at h) refl)
    runs (its_first e) (its_later r r' e') h h' q = absurd (not_announced (rw e' at h') refl)
    runs (apart z e) (its_later r r' e') h h' q = absurd (not_announced (rw e' at h') refl)
    runs (its_first e) (its_first e') h h' q = refl
    runs {k' = k'} (its_first e) (apart r e') h h' q = absurd (older k' e' h' (sym q ∙ ap (λ (y : Entry). y.address) e))
    runs {k = k} (apart r e) (its_first e') h h' q = absurd (older k e h (q ∙ ap (λ (y : Entry). y.address) e'))
    runs {k} {k'} (apart r e) (apart r' e') h h' q = l.runs k k' (rw e at h) (rw e' at h') (rw (e, e') at q)

-- an initiator's endpoint i, in use, is bound, by data or by the release of its binding
bound_kept : {t : List Entry} {ps : List Endpoint} {bs : List Binding} → Leads t ps bs → length ps ≡ 8 → (i : ℕ) (p : Endpoint) → i < 8 → is_used (endpoint_of ps i) ≡ true → at is_bound p ≡ true →
    p.address ≡ (endpoint_of ps i).address → Leads t (set ps i p) bs
bound_kept {t} {ps} {bs} l len i p li u pb pa =
    record {
      none-stored = l.none-stored;
      addresses = changed_once l.addresses i p (omega arith) u pa;
      low = each_set no_endpoint (Low is_used) ps i p (omega arith) l.low (λ _. rw pa (l.low i u));
      used = λ k h. let z = l.used k h in (z.0, still (is i z.0) z.1);
      sent = λ j h. sent (is i j) h;
      runs = l.runs;
    }
  where
    at_i : endpoint_of (set ps i p) i ≡ p
    at_i = get_or-set_same ps i p no_endpoint (omega arith)

    still : {a j : ℕ} → Is i j → UsesAt ps a j → UsesAt (set ps i p) a j
    still that w = (li, rw at_i (bound_used p.stage pb), rw at_i pa ∙ w.2)
    still {j = j} (another d) w = rw (get_or-set_other ps i j p no_endpoint d) w

    -- the one that is bound waits no more
    sent : {j : ℕ} → Is i j → at is_waiting (endpoint_of (set ps i p) j) ≡ true → (k : ℕ) × SentFor t k (endpoint_of (set ps i p) j).address
    sent that h = absurd (bound_not p.stage pb (rw at_i at h))
    sent {j} (another d) h = let e = get_or-set_other ps i j p no_endpoint d in rw e (l.sent j (rw e at h))

-- the binding sent at s is released, for whose address no endpoint waits any more
released_kept : {t t' : List Entry} {ps : List Endpoint} {bs : List Binding} → Leads t ps bs → (s : ℕ) → ((j : ℕ) → at is_waiting (endpoint_of ps j) ≡ true → (endpoint_of ps j).address ≡ (entry t s).address → ⊥) →
    ((k : ℕ) → IsAnnounced t' k → entry t' k ≡ entry t k) → ((k : ℕ) → IsAnnounced t k → s ≢ k → entry t' k ≡ entry t k) → Leads t' ps bs
released_kept {t} {t'} {ps} l s none same others-stay =
    record {
      none-stored = l.none-stored;
      addresses = l.addresses;
      low = l.low;
      used = λ k h. let q = same k h in rw q (l.used k (rw q at h));
      sent = sent;
      runs = λ k k' h h' q. l.runs k k' (rw (same k h) at h) (rw (same k' h') at h') (rw (same k h, same k' h') at q);
    }
  where
    sent : (j : ℕ) → at is_waiting (endpoint_of ps j) ≡ true → (k : ℕ) × SentFor t' k (endpoint_of ps j).address
    sent j h =
        let z = l.sent j h in
        let d : s ≢ z.0 = λ (q : s ≡ z.0). none j h (sym z.1.1 ∙ ap (λ (k : ℕ). (entry t k).address) (sym q)) in
        (z.0, rw (others-stay z.0 z.1.0 d) z.1)

-- an initiator's endpoints in use, where the one that was found for address a is bound. Where none was found, it is bound already
bound_in_use : {t : List Entry} {ps : List Endpoint} {bs : List Binding} → Leads t ps bs → length ps ≡ 8 → (a : ℕ) (q : Search) → ((i : ℕ) → q ≡ found_at i → UsesAt ps a i) →
    (q ≡ nowhere → (j : ℕ) → is_used (endpoint_of ps j) ≡ true → (endpoint_of ps j).address ≡ a → at is_bound (endpoint_of ps j) ≡ true) →
    (j : ℕ) → is_used (endpoint_of ps j) ≡ true → endpoint_of (bound_now ps a q) j ≡ bound_if (eqb a (endpoint_of ps j).address) (endpoint_of ps j)
bound_in_use {ps = ps} l len a nowhere f g j u = go (eqb a (endpoint_of ps j).address) refl
  where
    go : (b : Bool) → eqb a (endpoint_of ps j).address ≡ b → endpoint_of ps j ≡ bound_if b (endpoint_of ps j)
    go true q = sym (bound_is (endpoint_of ps j) (g refl j u (sym (eqb-true a (endpoint_of ps j).address q))))
    go false q = refl
bound_in_use {ps = ps} l len a (found_at i) f g j u = go (is i j) u
  where
    z : UsesAt ps a i
    z = f i refl

    p : Endpoint
    p = record { stage = Bound; address = a; name = (endpoint_of ps i).name }

    go : {k : ℕ} → Is i k → is_used (endpoint_of ps k) ≡ true → endpoint_of (set ps i p) k ≡ bound_if (eqb a (endpoint_of ps k).address) (endpoint_of ps k)
    go that u = get_or-set_same ps i p no_endpoint (omega (arith, z.0)) ∙ rw (eq-eqb a (endpoint_of ps i).address (sym z.2), z.2)
    go {k} (another d) u =
        let n : eqb a (endpoint_of ps k).address ≡ false = ne_eqb a (endpoint_of ps k).address (λ q. d (l.addresses.endpoints k i u z.1 (sym q ∙ sym z.2))) in
        get_or-set_other ps i k p no_endpoint d ∙ rw n

-- ---- the rules: each leaves an end that has it

abbrev InvOf : End → Type 0
InvOf e = Inv e.initiator e.sent e.endpoints e.bindings

-- What becomes of an initiator's endpoints in use and of the bindings that are sent, where f tells of each test whether the call hands in a
-- message that passes it: those are bound whose binding it completes, and those stay sent that it does not release. One that is sent then for
-- the address of an endpoint in use was sent before.
pub record Onward (e : End) (f : (Control → Bool) → Bool) (o : Outcome) : Type 0 where
  pub in_use : e.initiator ≡ true → (i : ℕ) → is_used (endpoint_of e.endpoints i) ≡ true →
      endpoint_of o.next.endpoints i ≡ bound_if (eqb o.number 0 && f (completes (endpoint_of e.endpoints i).address)) (endpoint_of e.endpoints i)
  pub announced : (s : ℕ) → IsAnnounced e.sent s → (eqb o.number 0 && f (is_release (entry e.sent s).address)) ≡ false → entry o.next.sent s ≡ entry e.sent s
  pub sent-before : (s : ℕ) → IsAnnounced o.next.sent s → (i : ℕ) → is_used (endpoint_of e.endpoints i) ≡ true → (entry o.next.sent s).address ≡ (endpoint_of e.endpoints i).address →
      (entry o.next.sent s ≡ entry e.sent s) × ((eqb o.number 0 && f (is_release (entry o.next.sent s).address)) ≡ false)

-- and the invariant
record Good (e : End) (f : (Control → Bool) → Bool) (o : Outcome) : Type 0 where
  kept : InvOf o.next
  onward : Onward e f o

-- a call that hands in no message
abbrev silent : (Control → Bool) → Bool
silent g = false

-- a run taken for another use, or freed, sends no binding more
others-taken : {t t' : List Entry} {x : Entry} {s n : ℕ} → ((i : ℕ) → Taken t t' x s n i) → is_use SentBinding x.usage ≡ false → (i : ℕ) → IsAnnounced t' i → entry t' i ≡ entry t i
others-taken {t} {t'} {x} {s} {n} v d i h = go (v i) h
  where
    go : {j : ℕ} → Taken t t' x s n j → IsAnnounced t' j → entry t' j ≡ entry t j
    go (its_first e) h = absurd (not_announced (rw e at h) d)
    go (its_later p q e) h = absurd (not_announced (rw e at h) refl)
    go (apart p e) h = e

others-freed : {t t' : List Entry} {s n : ℕ} → ((i : ℕ) → Freed t t' s n i) → (i : ℕ) → IsAnnounced t' i → entry t' i ≡ entry t i
others-freed {t} {t'} {s} {n} v i h = go (v i) h
  where
    go : {j : ℕ} → Freed t t' s n j → IsAnnounced t' j → entry t' j ≡ entry t j
    go (gone p q e) h = absurd (not_announced (rw e at h) refl)
    go (apart p e) h = e

-- a binding that is sent behind a run taken is that run's, or was sent before
new_address : {t t' : List Entry} {x : Entry} {s n k : ℕ} → Taken t t' x s n k → IsAnnounced t' k → ((entry t' k).address ≡ x.address → ⊥) → entry t' k ≡ entry t k
new_address (its_first e) h d = absurd (d (rw e))
new_address (its_later p q e) h d = absurd (not_announced (rw e at h) refl)
new_address (apart p e) h d = e

-- a start's test tells the use
started : (u : Use) (g : Region) (t : List Entry) (s : ℕ) → starts u g.block_count t s ≡ true → (entry t s).usage ≡ u
started u g t s h = use_is u (entry t s).usage (every (in_use u t s ∷ lies g.block_count s (entry t s).count ∷ []) h).0

few : (e : End) → is_open e ≡ true → e.tx.block_count ≤ 256
few e o = let z = sound e o in omega (arith, leb-true)

wide : (e : End) → is_open e ≡ true → 0 < e.tx.block_size
wide e o = let z = sound e o in omega (arith, leb-true)

-- blocks for K bytes, taken where a search for them ended
module _ {e : End} (w : Separate e) where
  pub run-view : (u : Use) (a k m s : ℕ) → is_open e ≡ true → free_run e.tx.block_count e.sent (blocks_for e.tx.block_size k) ≡ found_at s → (i : ℕ) →
      Taken e.sent (taken e.sent u s (blocks_for e.tx.block_size k) a m) (run_entry u (blocks_for e.tx.block_size k) a m) s (blocks_for e.tx.block_size k) i
  unfolding free_run
  run-view u a k m s o q =
      let z = lowest-at e.tx.block_count e.sent 0 (blocks_for e.tx.block_size k) e.tx.block_count s q in
      taken-view w.sent (few e o) u s (blocks_for e.tx.block_size k) a m (blocks-one e.tx.block_size k (wide e o)) z.room

  -- and the bindings that are sent stay
  run-stays : (u : Use) (a k m s : ℕ) → is_open e ≡ true → free_run e.tx.block_count e.sent (blocks_for e.tx.block_size k) ≡ found_at s → (i : ℕ) → IsAnnounced e.sent i →
      entry (taken e.sent u s (blocks_for e.tx.block_size k) a m) i ≡ entry e.sent i
  unfolding free_run
  run-stays u a k m s o q i h =
      let z = lowest-at e.tx.block_count e.sent 0 (blocks_for e.tx.block_size k) e.tx.block_count s q in
      taken-stays w.sent (run-view u a k m s o q) (λ j p r. free-at e.sent s (blocks_for e.tx.block_size k) j z.free-there p r) (blocks-one e.tx.block_size k (wide e o)) i (rw h)

module _ {e : End} (w : Separate e) (v : InvOf e) where
  refusal_good : {f : (Control → Bool) → Bool} (n : ℕ) → leb 1 n ≡ true → Good e f (refused e n)
  refusal_good n h =
      let z : eqb n 0 ≡ false = ne_eqb n 0 (λ (q : n ≡ 0). omega (arith, leb-true 1 n h)) in
      record { kept = v; onward = record { in_use = λ _ i _. rw z; announced = λ s _ _. refl; sent-before = λ s _ i _ _. (refl, rw z) } }

  checked : {f : (Control → Bool) → Bool} {o : Outcome} (b : Bool) (n : ℕ) → leb 1 n ≡ true → (b ≡ true → Good e f o) → Good e f (check b n e o)
  checked true n h k = k refl
  checked false n h k = refusal_good n h

  found : {f : (Control → Bool) → Bool} {o : ℕ → Outcome} (q : Search) (n : ℕ) → leb 1 n ≡ true → ((s : ℕ) → q ≡ found_at s → Good e f (o s)) → Good e f (found_or n e o q)
  found nowhere n h k = refusal_good n h
  found (found_at s) n h k = k s refl

  -- endpoints as they were, and bindings sent
  quiet : {f : (Control → Bool) → Bool} {o : Outcome} → ((a : ℕ) → (f (completes a) ≡ false) × (f (is_release a) ≡ false)) → InvOf o.next → o.next.endpoints ≡ e.endpoints →
      ((s : ℕ) → IsAnnounced o.next.sent s → entry o.next.sent s ≡ entry e.sent s) → ((s : ℕ) → IsAnnounced e.sent s → entry o.next.sent s ≡ entry e.sent s) → Good e f o
  quiet {o = o} n k q b a =
      record {
        kept = k;
        onward = record {
          in_use = λ _ i _. rw (q, (n (endpoint_of e.endpoints i).address).0, and_false (eqb o.number 0));
          announced = λ s h _. a s h;
          sent-before = λ s h i _ _. (b s h, rw ((n (entry o.next.sent s).address).1, and_false (eqb o.number 0)));
        };
      }

  -- and both tables
  idle : {o : Outcome} → InvOf o.next → o.next.endpoints ≡ e.endpoints → o.next.sent ≡ e.sent → Good e silent o
  idle k q t = quiet (λ _. (refl, refl)) k q (λ s _. rw t) (λ s _. rw t)

  -- rings
  push_good : (b : Bool) (ws : List (ℕ × ℕ)) (a : Answer) → Good e silent (pick b (push_outcome e ws a) (ring_refused e 6))
  unfolding changed
  push_good true ws (ringNo n) = idle v refl refl
  push_good true ws (ringYes k i) = idle v refl refl
  push_good true ws (ringDropped n i) = idle v refl refl
  push_good false ws a = idle v refl refl

  pull_good : (b : Bool) (ws bs : List (ℕ × ℕ)) (a : Answer) → Good e silent (pick b (pull_outcome e ws bs a) (ring_refused e 6))
  unfolding changed
  pull_good true ws bs (ringNo n) = idle v refl refl
  pull_good true ws bs (ringYes k i) = idle v refl refl
  pull_good true ws bs (ringDropped n i) = idle v refl refl
  pull_good false ws bs a = idle v refl refl

  -- what is good before the ring is good behind it
  pushed_good : {tx : List ℕ} {o o' : Outcome} → PushedOrNot e tx o o' → Good e silent o → Good e silent o'
  unfolding changed
  pushed_good (nothing_to_push q) g = g
  pushed_good (not_pushed c n q r l) g = refusal_good n (le-leb 1 n l)
  pushed_good (is_pushed c k i q r) g = record { kept = g.kept; onward = record { in_use = g.onward.in_use; announced = g.onward.announced; sent-before = g.onward.sent-before } }

  -- messages
  reserve_good : (k : ℕ) → Good e silent (reserve_of e k)
  unfolding reserve_of changed
  reserve_good k =
      checked (is_open e) 6 refl λ o.
      checked (leb (blocks_for e.tx.block_size k) e.tx.block_count) 23 refl λ _.
      found (free_run e.tx.block_count e.sent (blocks_for e.tx.block_size k)) 24 refl λ s q.
      let b = others-taken (run-view w Reserved 0 k 0 s o q) refl in
      quiet (λ _. (refl, refl)) (same_sent v b (run-stays w Reserved 0 k 0 s o q)) refl b (run-stays w Reserved 0 k 0 s o q)

  -- a run of another use freed: the bindings that are sent stay
  freed_keeps : (u : Use) (s : ℕ) → is_open e ≡ true → block_kind u ≡ leading → is_use SentBinding u ≡ false → starts u e.tx.block_count e.sent s ≡ true → (i : ℕ) → IsAnnounced e.sent i →
      entry (freed e.sent s (entry e.sent s).count) i ≡ entry e.sent i
  freed_keeps u s o k d h i a =
      let q = started u e.tx e.sent s h in
      let l : Live e.sent s = rw q k in
      freed-stays w.sent l (freed-view w.sent (few e o) s l) i (rw a) (λ (r : s ≡ i). not_announced (rw (← r, q) at a) d)

  freed-before : (u : Use) (s : ℕ) → is_open e ≡ true → block_kind u ≡ leading → starts u e.tx.block_count e.sent s ≡ true → (i : ℕ) → IsAnnounced (freed e.sent s (entry e.sent s).count) i →
      entry (freed e.sent s (entry e.sent s).count) i ≡ entry e.sent i
  freed-before u s o k h = let l : Live e.sent s = rw (started u e.tx e.sent s h) k in others-freed (freed-view w.sent (few e o) s l)

  freed-sent : (u : Use) (s : ℕ) → is_open e ≡ true → block_kind u ≡ leading → is_use SentBinding u ≡ false → starts u e.tx.block_count e.sent s ≡ true →
      Inv e.initiator (freed e.sent s (entry e.sent s).count) e.endpoints e.bindings
  freed-sent u s o k d h = same_sent v (freed-before u s o k h) (freed_keeps u s o k d h)

  send_good : (n s a k : ℕ) → Good e silent (send_of e n s a k)
  unfolding send_of changed
  send_good n s a k =
      checked (whole e e.tx n) 6 refl λ b.
      checked (starts Reserved e.tx.block_count e.sent s) 25 refl λ h.
      checked (some_endpoint (bound_at a) e.endpoints) 15 refl λ _.
      checked (leb (k + 4) ((entry e.sent s).count * e.tx.block_size)) 23 refl λ f.
      let o = whole_open e e.tx n b in
      let l : Live e.sent s = rw (started Reserved e.tx e.sent s h) in
      let m = blocks_least e.tx.block_size k (entry e.sent s).count (leb-true (k + 4) ((entry e.sent s).count * e.tx.block_size) f) (wide e o) in
      let one = blocks-one e.tx.block_size k (wide e o) in
      let t = taken-view (free_law w.sent (few e o) s l) (few e o) SentData s (blocks_for e.tx.block_size k) a k one (omega (arith, (w.sent.within s l).1)) in
      let stays : (i : ℕ) → IsAnnounced (freed e.sent s (entry e.sent s).count) i → entry (taken (freed e.sent s (entry e.sent s).count) SentData s (blocks_for e.tx.block_size k) a k) i ≡ entry (freed e.sent s (entry e.sent s).count) i =
      λ i q. taken-stays (free_law w.sent (few e o) s l) t (freed-free w.sent (few e o) s _ l m) one i (rw q) in
      quiet (λ _. (refl, refl)) (same_sent (freed-sent Reserved s o refl refl h) (others-taken t refl) stays) refl
      (λ i q. let f = others-taken t refl i q in f ∙ freed-before Reserved s o refl h i (rw f at q))
      (λ i q. let f = freed_keeps Reserved s o refl refl h i q in stays i (rw f q) ∙ f)

  drop_good : (s : ℕ) → Good e silent (drop_of e s)
  unfolding drop_of changed
  drop_good s =
      checked (is_open e) 6 refl λ o.
      checked (starts Reserved e.tx.block_count e.sent s) 25 refl λ h.
      quiet (λ _. (refl, refl)) (freed-sent Reserved s o refl refl h) refl (freed-before Reserved s o refl h) (freed_keeps Reserved s o refl refl h)

  done_good : (n s : ℕ) → Good e silent (done_of e n s)
  unfolding done_of changed
  done_good n s = checked (whole e e.tx n) 6 refl λ _. checked (starts_data e.rx.block_count e.rx.block_size e.held s) 25 refl λ _. idle v refl refl

  room_good : (n s : ℕ) → Good e silent (room_of e n s)
  unfolding room_of
  room_good n s = checked (whole e e.tx n) 6 refl λ _. checked (starts Reserved e.tx.block_count e.sent s) 25 refl λ _. idle v refl refl

  view_good : (n s : ℕ) → Good e silent (view_of e n s)
  unfolding view_of
  view_good n s = checked (whole e e.rx n) 6 refl λ _. checked (starts_data e.rx.block_count e.rx.block_size e.held s) 25 refl λ _. idle v refl refl

  room_question_good : (s n : ℕ) → Good e silent (room_question e s n)
  unfolding room_question
  room_question_good s n = let g = room_good n s in record { kept = g.kept; onward = record { in_use = g.onward.in_use; announced = g.onward.announced; sent-before = g.onward.sent-before } }

  view_question_good : (s n : ℕ) → Good e silent (view_question e s n)
  unfolding view_question
  view_question_good s n = let g = view_good n s in record { kept = g.kept; onward = record { in_use = g.onward.in_use; announced = g.onward.announced; sent-before = g.onward.sent-before } }

  -- register: no endpoint in use has the name
  abbrev Unnamed : List ℕ → Type 0
  Unnamed n = (j : ℕ) → is_used (endpoint_of e.endpoints j) ≡ true → (endpoint_of e.endpoints j).name ≡ padded_name n → ⊥

  -- endpoint i gets a name that no other has
  named_by : (n : List ℕ) (i : ℕ) (p : Endpoint) → i < 8 → p.name ≡ padded_name n → Unnamed n → ((j : ℕ) → IsKept e.bindings j → (binding_of e.bindings j).name ≡ padded_name n → ⊥) →
      OnceNamed (set e.endpoints i p) e.bindings
  named_by n i p l q c c' =
      placed_once v.names i p (omega (arith, w.eight)) (λ _ j _ h r. c j h (r ∙ q)) (λ _ j h r. c' j h (sym r ∙ q))

  initiates_good : (n : List ℕ) (i : ℕ) → is_open e ≡ true → e.initiator ≡ true → Leads e.sent e.endpoints e.bindings → Unnamed n →
      endpoint_at (at is_unused) e.endpoints ≡ found_at i → Good e silent (initiates e n i)
  unfolding initiates changed
  initiates_good n i o r l c q =
      let a : ℕ = unused_from 8 0 e.endpoints in
      let x = first-at (at is_unused) no_endpoint e.endpoints 8 0 i q in
      let p : Endpoint = record { stage = Waiting; address = a; name = padded_name n } in
      let low = address_lowest e.endpoints w.eight (ap is_found q) in
      let m : ℕ = length n + 1 in
      let unused : (j : ℕ) → is_used (endpoint_of e.endpoints j) ≡ true → (endpoint_of e.endpoints j).address ≡ a → ⊥ =
      λ j h y. none_passes (uses a) no_endpoint e.endpoints w.eight refl (not_found _ low.0) j (rw (h, eq-eqb _ _ y)) in
      checked (leb (blocks_for e.tx.block_size m) e.tx.block_count) 23 refl λ _.
      found (free_run e.tx.block_count e.sent (blocks_for e.tx.block_size m)) 24 refl λ s z.
      record {
        kept = rw r (record {
          names = named_by n i p (omega arith) refl c (λ j h _. l.none-stored j h);
          role = leads (announced_kept l w.eight i p (omega arith) x.0 refl refl (omega (arith, low.2))
              unused
              (run-view w SentBinding a m m s o z) refl
              (first_entry (run-view w SentBinding a m m s o z s) (blocks-one e.tx.block_size m (wide e o)))
              (run-stays w SentBinding a m m s o z));
        });
        onward = record {
          in_use = λ _ j u. get_or-set_other e.endpoints i j p no_endpoint (λ (y : j ≡ i). false≢true (rw (y, x.0) at u));
          announced = λ k h _. run-stays w SentBinding a m m s o z k h;
          sent-before = λ k h j u y. (new_address (run-view w SentBinding a m m s o z k) h (λ v. unused j u (sym y ∙ v)), refl);
        };
      }

  -- a follower's endpoints and bindings changed
  follower_good : {f : (Control → Bool) → Bool} {o : Outcome} → e.initiator ≡ false → o.next.initiator ≡ e.initiator → o.next.sent ≡ e.sent →
      Follows e.sent e.endpoints e.bindings → OnceNamed o.next.endpoints o.next.bindings → OnceAt (at is_bound) o.next.endpoints o.next.bindings →
      ((i : ℕ) → Low (at is_bound) (endpoint_of o.next.endpoints i)) → ((j : ℕ) → LowStored (binding_of o.next.bindings j)) → Good e f o
  follower_good r q t l n a x y =
      record {
        kept = rw (q, r, t) (record { names = n; role = follows (record { none-sent = l.none-sent; addresses = a; low = x; low_stored = y }) });
        onward = record { in_use = λ h. absurd (false≢true (sym r ∙ h)); announced = λ s _ _. rw t; sent-before = λ s h. absurd (l.none-sent s (rw t at h)) };
      }

  followed_good : (n : List ℕ) (i : ℕ) (q : Search) → e.initiator ≡ false → Follows e.sent e.endpoints e.bindings → Unnamed n → i < 8 →
      binding_at (holds e.rx.block_count n) e.bindings ≡ q → Good e silent (followed e n i q)
  unfolding changed
  followed_good n i nowhere r l c li q =
      let p : Endpoint = record { stage = Waiting; address = 0; name = padded_name n } in
      let unstored : (j : ℕ) → IsKept e.bindings j → (binding_of e.bindings j).name ≡ padded_name n → ⊥ =
      λ j h y. none_passes (holds e.rx.block_count n) no_binding e.bindings w.stored.eight refl q j
      (rw (stored-holds e.rx w.held w.stored n j, h, y) (same_self (padded_name n))) in
      let lp : i < length e.endpoints = omega (arith, w.eight) in
      follower_good r refl refl l (named_by n i p li refl c unstored) (placed_once l.addresses i p lp (λ h. absurd (false≢true h)) (λ h. absurd (false≢true h)))
      (each_set no_endpoint (Low (at is_bound)) e.endpoints i p lp l.low (λ h. absurd (false≢true h))) l.low_stored
  followed_good n i (found_at j) r l c li q =
      let b : Binding = binding_of e.bindings j in
      let x = first-at (holds e.rx.block_count n) no_binding e.bindings 8 0 j q in
      let z = every (b.stored ∷ same b.name (padded_name n) ∷ lies e.rx.block_count b.start b.count ∷ []) x.0 in
      let p : Endpoint = record { stage = Bound; address = b.address; name = padded_name n } in
      let lj : j < length e.bindings = omega (arith, w.stored.eight) in
      let lp : i < length e.endpoints = omega (arith, w.eight) in
      follower_good r refl refl l (taken_over v.names i j p lp lj z.0 (sym (same_true b.name (padded_name n) z.1.0))) (taken_over l.addresses i j p lp lj z.0 refl)
      (each_set no_endpoint (Low (at is_bound)) e.endpoints i p lp l.low (λ _. l.low_stored j z.0))
      (each_set no_binding LowStored e.bindings j no_binding lj l.low_stored (λ h. absurd (false≢true h)))

  register_good : (l : ℕ) (n : List ℕ) → Good e silent (register_of e l n)
  unfolding register_of
  register_good l n =
      checked (whole e e.tx l) 6 refl λ b.
      checked (good_name 31 n) 20 refl λ _.
      checked (not (some_endpoint (registered n) e.endpoints)) 21 refl λ c.
      found (endpoint_at (at is_unused) e.endpoints) 22 refl λ i q.
      let unnamed : Unnamed n = λ j h y. none_passes (registered n) no_endpoint e.endpoints w.eight refl (not_found _ (not-true _ c)) j (rw (h, y) (same_self (padded_name n))) in
      let x = first-at (at is_unused) no_endpoint e.endpoints 8 0 i q in
      go e.initiator i refl v.role (whole_open e e.tx l b) unnamed q (omega arith)
    where
      go : (r : Bool) (i : ℕ) → e.initiator ≡ r → Role e.sent e.endpoints e.bindings r → is_open e ≡ true → Unnamed n → endpoint_at (at is_unused) e.endpoints ≡ found_at i → i < 8 →
          Good e silent (pick r (initiates e n i) (followed e n i (binding_at (holds e.rx.block_count n) e.bindings)))
      go true i r (leads l) o c q li = initiates_good n i o r l c q
      go false i r (follows l) o c q li = followed_good n i (binding_at (holds e.rx.block_count n) e.bindings) r l c li refl

  -- a binding that arrives: neither its address nor its name is another's
  record Unclashed (a : ℕ) (n : List ℕ) : Type 0 where
    bound_address : (j : ℕ) → at is_bound (endpoint_of e.endpoints j) ≡ true → (endpoint_of e.endpoints j).address ≡ a → ⊥
    bound_name : (j : ℕ) → at is_bound (endpoint_of e.endpoints j) ≡ true → (endpoint_of e.endpoints j).name ≡ padded_name n → ⊥
    stored_address : (j : ℕ) → IsKept e.bindings j → (binding_of e.bindings j).address ≡ a → ⊥
    stored-name : (j : ℕ) → IsKept e.bindings j → (binding_of e.bindings j).name ≡ padded_name n → ⊥

  unclashed : (a : ℕ) (n : List ℕ) → (not (some_endpoint (clashes a n) e.endpoints) && not (some_binding (clashes_stored a n) e.bindings)) ≡ true → Unclashed a n
  unclashed a n h =
      let b = both (not (some_endpoint (clashes a n) e.endpoints)) (not (some_binding (clashes_stored a n) e.bindings)) h in
      let ps = none_passes (clashes a n) no_endpoint e.endpoints w.eight refl (not_found _ (not-true _ b.0)) in
      let bs = none_passes (clashes_stored a n) no_binding e.bindings w.stored.eight refl (not_found _ (not-true _ b.1)) in
      record {
        bound_address = λ j k q. ps j (rw (k, eq-eqb _ _ q));
        bound_name = λ j k q. ps j (rw (k, q, same_self (padded_name n)) (or_true (eqb (endpoint_of e.endpoints j).address a)));
        stored_address = λ j k q. bs j (rw (k, eq-eqb _ _ q));
        stored-name = λ j k q. bs j (rw (k, q, same_self (padded_name n)) (or_true (eqb (binding_of e.bindings j).address a)));
      }

  bound_to_good : {f : (Control → Bool) → Bool} (a b m : ℕ) (n : List ℕ) (q : Search) → e.initiator ≡ false → Follows e.sent e.endpoints e.bindings → a ≤ 0xFD → Unclashed a n →
      endpoint_at (waiting_for n) e.endpoints ≡ q → Good e f (bound_to e a b m n q)
  unfolding changed
  bound_to_good a b m n nowhere r l y c q =
      let unnamed : Unnamed n =
      λ i h k. neither (endpoint_of e.endpoints i).stage
      (λ m. none_passes (waiting_for n) no_endpoint e.endpoints w.eight refl q i (rw (m, k) (same_self (padded_name n)))) (λ m. c.bound_name i m k) h in
      found (binding_at (λ x. not x.stored) e.bindings) 22 refl λ j z.
      let x = first-at (λ x. not x.stored) no_binding e.bindings 8 0 j z in
      let its : Binding = record { stored = true; address = a; start = b; count = m; name = padded_name n } in
      let lj : j < length e.bindings = omega (arith, w.stored.eight) in
      follower_good r refl refl l (stored_once v.names j its lj (λ _ k _. c.stored-name k) (λ _. unnamed)) (stored_once l.addresses j its lj (λ _ k _. c.stored_address k) (λ _. c.bound_address))
      l.low (each_set no_binding LowStored e.bindings j its lj l.low_stored (λ _. y))
  bound_to_good a b m n (found_at i) r l y c q =
      let x = first-at (waiting_for n) no_endpoint e.endpoints 8 0 i q in
      let z = both (at is_waiting (endpoint_of e.endpoints i)) (same (endpoint_of e.endpoints i).name (padded_name n)) x.0 in
      let p : Endpoint = record { stage = Bound; address = a; name = padded_name n } in
      let lp : i < length e.endpoints = omega (arith, w.eight) in
      follower_good r refl refl l (changed_once v.names i p lp (waiting_used (endpoint_of e.endpoints i).stage z.0) (sym (same_true _ _ z.1)))
      (placed_once l.addresses i p lp (λ _ j _. c.bound_address j) (λ _ j h k. c.stored_address j h (sym k)))
      (each_set no_endpoint (Low (at is_bound)) e.endpoints i p lp l.low (λ _. y)) l.low_stored

  named_good : {f : (Control → Bool) → Bool} (a b m : ℕ) (q : Name) → e.initiator ≡ false → Follows e.sent e.endpoints e.bindings → a ≤ 0xFD → Good e f (with_name e (bound_named e a b m) q)
  unfolding bound_named
  named_good a b m endless r l y = refusal_good _ refl
  named_good a b m (name n) r l y =
      checked (leb 1 (length n)) 20 refl λ _.
      checked (not (some_endpoint (clashes a n) e.endpoints) && not (some_binding (clashes_stored a n) e.bindings)) 21 refl λ c.
      bound_to_good a b m n (endpoint_at (waiting_for n) e.endpoints) r l y (unclashed a n c) refl

  follower : {r : Bool} → e.initiator ≡ r → Role e.sent e.endpoints e.bindings r → not r ≡ true → (e.initiator ≡ false) × Follows e.sent e.endpoints e.bindings
  follower q (leads l) h = absurd (false≢true h)
  follower q (follows l) h = (q, l)

  bound_good : {f : (Control → Bool) → Bool} (a b : ℕ) (r : List ℕ) → Good e f (answer (bound_rule e a b) r)
  bound_good a b r =
      let k : ℕ = size_in e b r in
      rw (bound_flat e a b r)
      (checked (not e.initiator) 19 refl λ h.
      checked (leb a 0xFD) 14 refl λ y.
      checked (ltb b e.rx.block_count) 16 refl λ _.
      checked (fits_area e.rx b k) 17 refl λ _.
      checked (are_free e.held e.rx b k) 18 refl λ _.
      let f = follower refl v.role h in
      named_good a b (blocks_for e.rx.block_size k) (name_in (min k 32) (content_at e b) r) f.0 f.1 (leb-true a 0xFD y))

  -- data delivered: the endpoint that it reaches is bound
  delivered_good : (a b k : ℕ) (q : Search) {r : Bool} → e.initiator ≡ r → Role e.sent e.endpoints e.bindings r → endpoint_at (receives_at r a) e.endpoints ≡ q → is_found q ≡ true →
      Good e (λ g. g (DataSent a b)) (accepted (changed e e.write e.read e.sent (taken e.held ReceivedData b (blocks_for e.rx.block_size k) a k) (bound_now e.endpoints a q) e.bindings) (delivery a b k))
  unfolding changed
  delivered_good a b k nowhere r x h n = absurd (false≢true n)
  delivered_good a b k (found_at i) r (leads l) h n =
      let x = first-at (receives_at true a) no_endpoint e.endpoints 8 0 i h in
      let y = both (is_used (endpoint_of e.endpoints i)) (eqb (endpoint_of e.endpoints i).address a) x.0 in
      let at_a = eqb-true (endpoint_of e.endpoints i).address a y.1 in
      let p : Endpoint = record { stage = Bound; address = a; name = (endpoint_of e.endpoints i).name } in
      record {
        kept = rw r (record {
          names = changed_once v.names i p (omega (arith, w.eight)) y.0 refl;
          role = leads (bound_kept l w.eight i p (omega arith) y.0 refl (sym at_a));
        });
        onward = record {
          in_use = λ _. bound_in_use l w.eight a (found_at i) (λ j z. rw (found-same z) (omega arith, y.0, at_a)) (λ z. absurd (found_nowhere z));
          announced = λ s _ _. refl;
          sent-before = λ s _ i _ _. (refl, refl);
        };
      }
  delivered_good a b k (found_at i) r (follows l) h n =
      let x = first-at (receives_at false a) no_endpoint e.endpoints 8 0 i h in
      let y = both (at is_bound (endpoint_of e.endpoints i)) (eqb (endpoint_of e.endpoints i).address a) x.0 in
      let at_a = eqb-true (endpoint_of e.endpoints i).address a y.1 in
      let p : Endpoint = record { stage = Bound; address = a; name = (endpoint_of e.endpoints i).name } in
      let lp : i < length e.endpoints = omega (arith, w.eight) in
      follower_good r refl refl l (changed_once v.names i p lp (bound_used (endpoint_of e.endpoints i).stage y.0) refl) (changed_once l.addresses i p lp y.0 (sym at_a))
      (each_set no_endpoint (Low (at is_bound)) e.endpoints i p lp l.low (λ _. rw (← at_a) (l.low i y.0))) l.low_stored

  data_good : (a b : ℕ) (r : List ℕ) → Good e (λ g. g (DataSent a b)) (answer (data_rule e a b) r)
  data_good a b r =
      let k : ℕ = size_in e b r in
      rw (data_flat e a b r)
      (checked (leb a 0xFD) 14 refl λ _.
      checked (is_found (receiver e a)) 15 refl λ n.
      checked (ltb b e.rx.block_count) 16 refl λ _.
      checked (fits_area e.rx b k) 17 refl λ _.
      checked (are_free e.held e.rx b k) 18 refl λ _.
      delivered_good a b k (receiver e a) refl v.role refl n)

  release_good : (b : ℕ) → is_open e ≡ true → Good e (λ g. g (DataReleased b)) (release_of e b)
  unfolding release_of changed
  release_good b o =
      checked (ltb b e.tx.block_count) 16 refl λ _.
      checked (starts SentData e.tx.block_count e.sent b) 25 refl λ h.
      quiet (λ _. (refl, refl)) (freed-sent SentData b o refl refl h) refl (freed-before SentData b o refl h) (freed_keeps SentData b o refl refl h)

  -- before the run of a binding of address a is freed: the invariant, with these endpoints, of which none waits for a any more
  abbrev BoundFirst : List Endpoint → ℕ → Type 0
  BoundFirst ps a = OnceNamed ps e.bindings × Leads e.sent ps e.bindings × ((j : ℕ) → at is_waiting (endpoint_of ps j) ≡ true → (endpoint_of ps j).address ≡ a → ⊥)

  -- a binding released: at an initiator, since a follower sent none. Its endpoint waits, or data has bound it
  unbound_good : (a b : ℕ) (q : Search) {r : Bool} → is_open e ≡ true → starts SentBinding e.tx.block_count e.sent b ≡ true → (entry e.sent b).address ≡ a →
      endpoint_at (waiting_at a) e.endpoints ≡ q → e.initiator ≡ r → Role e.sent e.endpoints e.bindings r →
      Good e (λ g. g (BindingReleased a b)) (accepted (changed e e.write e.read (freed e.sent b (entry e.sent b).count) e.held (bound_now e.endpoints a q) e.bindings) nothing)
  unfolding changed
  unbound_good a b q o h at_b z r (follows l) = absurd (l.none-sent b (started SentBinding e.tx e.sent b h))
  unbound_good a b q o h at_b z r (leads l) =
      record {
        kept = rw r (record { names = (leaves q z).0; role = leads (released_kept (leaves q z).1 b (leaves q z).2 (λ k s. (freed-live w.sent live f k (rw s)).0) others) });
        onward = record {
          in_use = λ _. bound_in_use l w.eight a q waits_there (λ n j u y. used_bound (endpoint_of e.endpoints j).stage u (λ x. none-waits (z ∙ n) j x y));
          sent-before = λ s k i _ _.
              let y = freed-live w.sent live f s (rw k) in
              (y.0, ne_eqb a (entry (freed e.sent b (entry e.sent b).count) s).address (λ q. y.1 (l.runs b s u (rw y.0 at k) (at_b ∙ q ∙ rw y.0))));
          announced = λ s k n. others s k (λ (y : b ≡ s). false≢true (sym n ∙ eq-eqb a (entry e.sent s).address (sym at_b ∙ ap (λ (i : ℕ). (entry e.sent i).address) y)));
        };
      }
    where
      u : IsAnnounced e.sent b
      u = started SentBinding e.tx e.sent b h

      live : Live e.sent b
      live = rw u

      f : (i : ℕ) → Freed e.sent (freed e.sent b (entry e.sent b).count) b (entry e.sent b).count i
      f = freed-view w.sent (few e o) b live

      others : (k : ℕ) → IsAnnounced e.sent k → b ≢ k → entry (freed e.sent b (entry e.sent b).count) k ≡ entry e.sent k
      others k s d = freed-stays w.sent live f k (rw s) d

      none-waits : endpoint_at (waiting_at a) e.endpoints ≡ nowhere → (j : ℕ) → at is_waiting (endpoint_of e.endpoints j) ≡ true → (endpoint_of e.endpoints j).address ≡ a → ⊥
      none-waits n j x y = none_passes (waiting_at a) no_endpoint e.endpoints w.eight refl n j (rw (x, eq-eqb _ _ y))

      waiting_there : (i : ℕ) → endpoint_at (waiting_at a) e.endpoints ≡ found_at i → (i < 8) × (at is_waiting (endpoint_of e.endpoints i) ≡ true) × ((endpoint_of e.endpoints i).address ≡ a)
      waiting_there i y =
          let x = first-at (waiting_at a) no_endpoint e.endpoints 8 0 i y in
          let t = both (at is_waiting (endpoint_of e.endpoints i)) (eqb (endpoint_of e.endpoints i).address a) x.0 in
          (omega arith, t.0, eqb-true (endpoint_of e.endpoints i).address a t.1)

      waits_there : (i : ℕ) → q ≡ found_at i → UsesAt e.endpoints a i
      waits_there i y = let x = waiting_there i (z ∙ y) in (x.0, waiting_used (endpoint_of e.endpoints i).stage x.1, x.2)

      leaves : (q : Search) → endpoint_at (waiting_at a) e.endpoints ≡ q → BoundFirst (bound_now e.endpoints a q) (entry e.sent b).address
      leaves nowhere y = (v.names, l, λ j x n. none-waits y j x (n ∙ at_b))
      leaves (found_at i) y =
          let x = waiting_there i y in
          let u = waiting_used (endpoint_of e.endpoints i).stage x.1 in
          let p : Endpoint = record { stage = Bound; address = a; name = (endpoint_of e.endpoints i).name } in
          let m = bound_kept l w.eight i p x.0 u refl (sym x.2) in (
            changed_once v.names i p (omega (arith, w.eight, x.0)) u refl,
            m,
            λ j t n. bound_not (endpoint_of (set e.endpoints i p) j).stage
                (rw (
                  m.addresses.endpoints j i (waiting_used (endpoint_of (set e.endpoints i p) j).stage t) (rw (get_or-set_same e.endpoints i p no_endpoint (omega (arith, w.eight, x.0))))
                      (n ∙ at_b ∙ rw (get_or-set_same e.endpoints i p no_endpoint (omega (arith, w.eight, x.0)))),
                  get_or-set_same e.endpoints i p no_endpoint (omega (arith, w.eight, x.0)),
                )) t,
          )

  binding_released_good : (a b : ℕ) → is_open e ≡ true → Good e (λ g. g (BindingReleased a b)) (released_bound_of e a b)
  unfolding released_bound_of
  binding_released_good a b o =
      checked (leb a 0xFD) 14 refl λ _.
      checked (ltb b e.tx.block_count) 16 refl λ _.
      checked (starts SentBinding e.tx.block_count e.sent b && eqb (entry e.sent b).address a) 25 refl λ h.
      let z = both (starts SentBinding e.tx.block_count e.sent b) (eqb (entry e.sent b).address a) h in
      unbound_good a b _ o z.0 (eqb-true (entry e.sent b).address a z.1) refl refl v.role

  decoded_good : (l : Control) (r : List ℕ) → is_open e ≡ true → Good e (λ g. g l) (answer (decoded_rule e l) r)
  decoded_good UnknownKind r o = refusal_good _ refl
  decoded_good TooShort r o = refusal_good _ refl
  decoded_good (DataSent a b) r o = data_good a b r
  decoded_good (DataReleased b) r o = release_good b o
  decoded_good (BindingSent a b) r o = bound_good a b r
  decoded_good (BindingReleased a b) r o = binding_released_good a b o

  arrival_good : (b : Bool) (l : Control) (r : List ℕ) → (b ≡ true → is_open e ≡ true) → Good e (λ g. g l) (answer (guard b 6 e (decoded_rule e l)) r)
  arrival_good true l r h = decoded_good l r (h refl)
  arrival_good false l r h = refusal_good _ refl

  -- each call
  step_good : (c : Call) → Good e (λ g. arrives g c) (step e c)
  unfolding arrives step rule read_from arrival_rule start_of
  step_good (start tx) = let o : RingOutcome = ringStart (length tx) (transmit_ring e) in push_good (whole e e.tx (length tx)) o.region o.answer
  step_good (push tx c) =
      let o : RingOutcome = ringPush tx (transmit_ring e) e.write c in
      rw (push-answer e c tx) (push_good (whole e e.tx (length tx)) o.region o.answer)
  step_good (pull rx b) =
      let o : RingOutcome = answer (ringPull (length rx) (receive_ring e) e.read (length b)) rx in
      rw (pull-answer e (length rx) (length b) rx) (pull_good (whole e e.rx (length rx)) o.region o.buffer o.answer)
  step_good (reserve k) = reserve_good k
  step_good (room tx s) = room_good (length tx) s
  step_good (send tx s a k) = pushed_good (all_or_nothing_lem e tx (send_of e (length tx) s a k)) (send_good (length tx) s a k)
  step_good (drop s) = drop_good s
  step_good (arrival rx m) = arrival_good (whole e e.rx (length rx)) (decode m) rx (whole_open e e.rx (length rx))
  step_good (view rx s) = view_good (length rx) s
  step_good (done tx s) = pushed_good (all_or_nothing_lem e tx (done_of e (length tx) s)) (done_good (length tx) s)
  step_good (register tx n) = pushed_good (all_or_nothing_lem e tx (register_of e (length tx) n)) (register_good (length tx) n)
  step_good (ask_room s n) = room_question_good s n
  step_good (ask_view s n) = view_question_good s n

-- ---- a fresh end has it

all_alike : {X : Type 0} (d : X) (n i : ℕ) → get_or (replicate n d) i d ≡ d
all_alike d zero i = refl
all_alike d (suc n) zero = refl
all_alike d (suc n) (suc i) = all_alike d n i

none_kept : (n j : ℕ) → IsKept (replicate n no_binding) j → ⊥
none_kept n j h = false≢true (rw (all_alike no_binding n j) at h)

none-announced : (n s : ℕ) → IsAnnounced (replicate n free_entry) s → ⊥
none-announced n s h = not_announced (rw (all_alike free_entry n s) at h) refl

none-used : (test : Endpoint → Bool) (n i : ℕ) → test no_endpoint ≡ false → test (endpoint_of (replicate n no_endpoint) i) ≡ true → ⊥
none-used test n i z h = false≢true (sym z ∙ rw (all_alike no_endpoint n i) at h)

fresh_once : {A : Type 0} (test : Endpoint → Bool) (f : Endpoint → A) (g : Binding → A) (n m : ℕ) → test no_endpoint ≡ false → Once test f g (replicate n no_endpoint) (replicate m no_binding)
fresh_once test f g n m z =
    record {
      endpoints = λ i j h. absurd (none-used test n i z h);
      bindings = λ i j h. absurd (none_kept m i h);
      apart = λ i j h. absurd (none-used test n i z h);
    }

fresh_inv : (i : Bool) (n m k : ℕ) → Inv i (replicate n free_entry) (replicate m no_endpoint) (replicate k no_binding)
fresh_inv i n m k = record { names = fresh_once is_used (λ p. p.name) (λ b. b.name) m k refl; role = go i }
  where
    go : (i : Bool) → Role (replicate n free_entry) (replicate m no_endpoint) (replicate k no_binding) i
    go true =
        leads (record {
          none-stored = none_kept k;
          addresses = fresh_once is_used (λ p. p.address) (λ b. b.address) m k refl;
          low = λ i h. absurd (none-used is_used m i refl h);
          used = λ s h. absurd (none-announced n s h);
          sent = λ i h. absurd (none-used (at is_waiting) m i refl h);
          runs = λ s s' h. absurd (none-announced n s h);
        })
    go false =
        follows (record {
          none-sent = none-announced n;
          addresses = fresh_once (at is_bound) (λ p. p.address) (λ b. b.address) m k refl;
          low = λ i h. absurd (none-used (at is_bound) m i refl h);
          low_stored = λ j h. absurd (none_kept k j h);
        })

opened_inv : {o : Opening} {x : Outcome} → Opens o x → InvOf x.next
opened_inv {o} (opens p q) = fresh_inv (ltb o.rx.begin o.tx.begin) 256 8 8
opened_inv (shuts n h) = fresh_inv false 256 8 8

-- ---- the theorem

reached_inv : {e : End} → Reached e → InvOf e
reached_inv (opened o) = opened_inv (how_opened o)
reached_inv (called {e = e} c r) = (step_good (separate e r) (reached_inv r) c).kept

module _ {t : List Entry} {ps : List Endpoint} {bs : List Binding} where
  used_once : {r : Bool} → Role t ps bs r → (s : ℕ) → IsAnnounced t s → UsedOnce ps (entry t s).address
  used_once (follows l) s h = absurd (l.none-sent s h)
  used_once (leads l) s h =
      let z = l.used s h in
      let w = z.1 in
      record {
        index = z.0;
        below = w.0;
        used = w.1;
        its_address = w.2;
        only = λ j u q. l.addresses.endpoints j z.0 u w.1 (q ∙ sym w.2);
      }

  still_sent : {r : Bool} → Role t ps bs r → r ≡ true → (i : ℕ) → at is_waiting (endpoint_of ps i) ≡ true → (s : ℕ) × SentFor t s (endpoint_of ps i).address
  still_sent (follows l) q = absurd (false≢true q)
  still_sent (leads l) q = l.sent

  sent-apart : {r : Bool} → Role t ps bs r → (s s' : ℕ) → IsAnnounced t s → IsAnnounced t s' → (entry t s).address ≡ (entry t s').address → s ≡ s'
  sent-apart (follows l) s s' h h' q = absurd (l.none-sent s h)
  sent-apart (leads l) s s' h h' q = l.runs s s' h h' q

  sends_none : {r : Bool} → Role t ps bs r → r ≡ false → (s : ℕ) → IsAnnounced t s → ⊥
  sends_none (follows l) q = l.none-sent
  sends_none (leads l) q = absurd (false≢true (sym q))

  stores_none : {r : Bool} → Role t ps bs r → r ≡ true → (j : ℕ) → IsKept bs j → ⊥
  stores_none (follows l) q = absurd (false≢true q)
  stores_none (leads l) q = l.none-stored

  addresses_once : {r : Bool} → Role t ps bs r → OnceAt (has_address r) ps bs
  addresses_once (follows l) = l.addresses
  addresses_once (leads l) = l.addresses

  addresses_low : {r : Bool} → Role t ps bs r → (i : ℕ) → Low (has_address r) (endpoint_of ps i)
  addresses_low (follows l) = l.low
  addresses_low (leads l) = l.low

  stored_low : {r : Bool} → Role t ps bs r → (j : ℕ) → LowStored (binding_of bs j)
  stored_low (follows l) j h = l.low_stored j h
  stored_low (leads l) j h = absurd (l.none-stored j h)

pub names_kept : NamesKept
names_kept e r =
    let v = reached_inv r in
    record {
      announced = used_once v.role;
      awaited = λ q i h. let z = still_sent v.role q i h in (z.0, z.1.0, z.1.1);
      follower_sends_none = sends_none v.role;
      initiator_stores_none = stores_none v.role;
      sent_once = sent-apart v.role;
      names = v.names;
      addresses = addresses_once v.role;
      endpoints_low = addresses_low v.role;
      bindings_low = stored_low v.role;
    }

-- and what a call makes of it
pub onward : (e : End) (c : Call) → Reached e → Onward e (λ g. arrives g c) (step e c)
onward e c r = (step_good (separate e r) (reached_inv r) c).onward
