-- An initiator's binding is completed by the first message for its address that is accepted: data, or the release of the binding.
use Prim.Native.Nat.{ℕ, ◌+◌, ◌<◌, min}
use mathlib.Core.Bool.{Bool, true, false, not, ◌&&◌, ◌||◌, false≢true}
use mathlib.Core.Path.{◌≡◌, refl, sym, ap, ◌∙◌}
use mathlib.Core.List.{List, [], ◌∷◌}
use native.Mathlib.Omega.{arith}
use lib.Dec.{leb, ltb, eqb}
use lib.ListN.{length}
use lib.Seq.{get_or-set_same}
use borrow.Author.Tests.{eqb-true, leb-true, le-leb, lt-ltb, eq-eqb}
use Rattle.wire.specs.Choice.{pick}
use Rattle.wire.specs.Reads.{answer}
use Rattle.wire.proofs.Choices.{both, or_true, or_false}
use Rattle.blocks.specs.Search.{Search, nowhere, found_at, is_found}
use Rattle.blocks.specs.Names.{Name, endless, name, name_in, padded_name}
use Rattle.blocks.specs.Tables.{entry, starts, blocks_for, free_run}
use Rattle.blocks.specs.declared.Use.TheVariants.{SentData, SentBinding}
use Rattle.blocks.specs.declared.Entry.{Entry}
use Rattle.blocks.proofs.LeastBlocks.{blocks-one}
use Rattle.blocks.proofs.Search.{first-at}
use Rattle.blocks.proofs.Tables.{run_of, first_entry}
use Rattle.endpoints.specs.Endpoints.{no_endpoint, at, is_unused, is_bound, has_address, bound_at, receives_at, registered, waiting_for, clashes, clashes_stored, endpoint_at, binding_at, some_endpoint, some_binding, unused_from, holds, good_name, bound_now}
use Rattle.endpoints.specs.declared.Stage.TheVariants.{Waiting, Bound}
use Rattle.endpoints.specs.declared.Endpoint.{Endpoint}
use Rattle.endpoints.proofs.Bound.{bound_already}
use Rattle.icbmsg.specs.Outcome.{nothing, control, delivery, Outcome, refused, guard}
use Rattle.icbmsg.specs.Ends.{is_open, whole, changed}
use Rattle.icbmsg.specs.Registering.{announcement, followed, initiates, register_of}
use Rattle.icbmsg.specs.Arrivals.{decode, fits_area, are_free, receiver, delivered, release_of, released_bound_of, bound_to, bound_named, decoded_rule, arrival_rule, data_rule}
use Rattle.icbmsg.specs.declared.Control.{Control}
use Rattle.icbmsg.specs.declared.Control.TheVariants.{TooShort, UnknownKind, DataSent, DataReleased, BindingSent, BindingReleased}
use Rattle.icbmsg.specs.Calls.{Call, arrival, register, rule, read_from, step, run, left}
use Rattle.icbmsg.specs.Reading.{size_in, content_at}
use Rattle.icbmsg.specs.WellFormed.{Separate}
use Rattle.icbmsg.specs.Theorems.{Reached, called}
use Rattle.icbmsg.specs.Names.{endpoint_of, is_used, IsAnnounced}
use Rattle.icbmsg.specs.Completion.{completes, is_release, arrives, arrived, some_arrived, IsBoundTo, Registration, binding_run, BindingCompletes, DataReaches}
use Rattle.icbmsg.specs.End.{End}
use Rattle.icbmsg.specs.Pushing.{PushedOrNot, nothing_to_push, not_pushed, is_pushed}
use Rattle.icbmsg.proofs.AllOrNothing.{all_or_nothing_lem}
use Rattle.icbmsg.proofs.Claims.{Claim, past, past-found}
use Rattle.icbmsg.proofs.ArrivingBytes.{with_name, bound_flat, data_flat}
use Rattle.icbmsg.proofs.Effects.{sound, whole_open}
use Rattle.icbmsg.proofs.Refusals.{numbers_stay}
use Rattle.icbmsg.proofs.Separate.{separate, left-reached}
use Rattle.icbmsg.proofs.NothingAdded.{nothing_added}
use Rattle.icbmsg.proofs.Once.{none_passes, not_found}
use Rattle.icbmsg.proofs.Names.{bound_if, bound_used, run-view, names_kept, onward}

-- ---- what comes with an answer

nothing≢control : {k a b : ℕ} → nothing ≡ control k a b → ⊥
nothing≢control h = let z : ◌≡◌ {A = ℕ} 0 1 = cc in omega arith

nothing≢delivery : {a b k : ℕ} → nothing ≡ delivery a b k → ⊥
nothing≢delivery h = let z : ◌≡◌ {A = ℕ} 0 1 = cc in omega arith

control≢delivery : {x y z a b k : ℕ} → control x y z ≡ delivery a b k → ⊥
control≢delivery h = let z : ◌≡◌ {A = ℕ} 0 1 = cc in omega arith

control-kind : {k a b l c d : ℕ} → control k a b ≡ control l c d → k ≡ l
control-kind h = cc

control_address : {k a b l c d : ℕ} → control k a b ≡ control l c d → a ≡ c
control_address h = cc

control_block : {k a b l c d : ℕ} → control k a b ≡ control l c d → b ≡ d
control_block h = cc

delivery_address : {a b k c d l : ℕ} → delivery a b k ≡ delivery c d l → a ≡ c
delivery_address h = cc

-- ---- the register

-- what an outcome says if 02 a s came with it
abbrev Announces : End → List ℕ → ℕ → ℕ → Outcome → Type 0
Announces e n a s o = o.given ≡ control 2 a s → (e.initiator ≡ true) × Registration o.next n a s (binding_run e a (length n)) false false

module _ {e : End} (w : Separate e) (n : List ℕ) (a s : ℕ) where
  announced : (i y : ℕ) → is_open e ≡ true → e.initiator ≡ true → i < 8 → free_run e.tx.block_count e.sent (blocks_for e.tx.block_size (length n + 1)) ≡ found_at y →
      Claim (Announces e n a s) (announcement e n i (unused_from 8 0 e.endpoints) y)
  unfolding changed
  announced i y o r l q =
      let x : ℕ = unused_from 8 0 e.endpoints in
      let m : ℕ = length n + 1 in
      let z = sound e o in
      record {
        holds = λ h. rw (← (control_address h), ← (control_block h)) (
          r,
          record {
            index = i;
            endpoint = get_or-set_same e.endpoints i _ no_endpoint (omega (arith, w.eight));
            message = λ _. first_entry (run-view w SentBinding x m m y o q y) (blocks-one e.tx.block_size m (omega (arith, leb-true)));
            gone = λ f. absurd (false≢true f);
          },
        );
      }

  initiated : (i : ℕ) → is_open e ≡ true → e.initiator ≡ true → i < 8 → Claim (Announces e n a s) (initiates e n i)
  unfolding initiates
  initiated i o r l =
      past e (leb (blocks_for e.tx.block_size (length n + 1)) e.tx.block_count) 23 (λ h. absurd (nothing≢control h)) λ _.
      past-found e (free_run e.tx.block_count e.sent (blocks_for e.tx.block_size (length n + 1))) 24 (λ h. absurd (nothing≢control h)) λ y q.
      announced i y o r l q

  was_followed : (i : ℕ) (q : Search) → Claim (Announces e n a s) (followed e n i q)
  was_followed i nowhere = record { holds = λ h. absurd (nothing≢control h) }
  was_followed i (found_at j) = record { holds = λ h. absurd (omega (arith, control-kind h)) }

  register_says : (l : ℕ) → Claim (Announces e n a s) (register_of e l n)
  unfolding register_of
  register_says l =
      past e (whole e e.tx l) 6 (λ h. absurd (nothing≢control h)) λ b.
      past e (good_name 31 n) 20 (λ h. absurd (nothing≢control h)) λ _.
      past e (not (some_endpoint (registered n) e.endpoints)) 21 (λ h. absurd (nothing≢control h)) λ _.
      past-found e (endpoint_at (at is_unused) e.endpoints) 22 (λ h. absurd (nothing≢control h)) λ i q.
      let x = first-at (at is_unused) no_endpoint e.endpoints 8 0 i q in
      go e.initiator i refl (whole_open e e.tx l b) (omega arith)
    where
      go : (r : Bool) (i : ℕ) → e.initiator ≡ r → is_open e ≡ true → i < 8 → Claim (Announces e n a s) (pick r (initiates e n i) (followed e n i (binding_at (holds e.rx.block_count n) e.bindings)))
      go true i r o l = initiated i o r l
      go false i r o l = was_followed i (binding_at (holds e.rx.block_count n) e.bindings)

-- and behind the ring
pushed-announces : {e : End} {tx n : List ℕ} {a s : ℕ} {o o' : Outcome} → PushedOrNot e tx o o' → Announces e n a s o → Announces e n a s o'
unfolding changed
pushed-announces (nothing_to_push q) k h = k h
pushed-announces (not_pushed c m q r l) k h = absurd (nothing≢control h)
pushed-announces (is_pushed c m i q r) k h =
    let z = k h in
    let g = z.1 in
    (z.0, record { index = g.index; endpoint = g.endpoint; message = g.message; gone = g.gone })

-- ---- any calls behind it

or_assoc : (a b c : Bool) → ((a || b) || c) ≡ (a || (b || c))
or_assoc true b c = refl
or_assoc false b c = refl

other_true : (a b : Bool) → b ≡ false → (a || b) ≡ true → a ≡ true
other_true true b h k = refl
other_true false b h k = absurd (false≢true (sym h ∙ k))

neither : (a b : Bool) → (a || b) ≡ false → (a ≡ false) × (b ≡ false)
neither true b h = absurd (false≢true (sym h))
neither false b h = (refl, h)

-- the endpoint of a registration, by whether its binding is completed
abbrev registered_as : Bool → ℕ → List ℕ → Endpoint
registered_as c a n = record { stage = pick c Bound Waiting; address = a; name = padded_name n }

registered-used : (c : Bool) (a : ℕ) (n : List ℕ) → is_used (registered_as c a n) ≡ true
registered-used true a n = refl
registered-used false a n = refl

registered_bound : (c b : Bool) (a : ℕ) (n : List ℕ) → bound_if b (registered_as c a n) ≡ registered_as (c || b) a n
registered_bound true true a n = refl
registered_bound true false a n = refl
registered_bound false true a n = refl
registered_bound false false a n = refl

module _ {n : List ℕ} {a s : ℕ} {x : Entry} (sent : x.usage ≡ SentBinding) (addressed : x.address ≡ a) where
  -- one call
  registration_step : {e : End} {c r : Bool} (l : Call) → Reached e → e.initiator ≡ true → Registration e n a s x c r →
      Registration (step e l).next n a s x (c || arrived (completes a) l (step e l).number) (r || arrived (is_release a) l (step e l).number)
  registration_step {e} {c} {r} l reached i g =
      let o = onward e l reached in
      let p = g.endpoint in
      record {
        index = g.index;
        endpoint = o.in_use i g.index (rw p (registered-used c a n)) ∙ rw p (registered_bound c (arrived (completes a) l (step e l).number) a n);
        message = λ h.
            let b = neither r (arrived (is_release a) l (step e l).number) h in
            let m = g.message b.0 in
            o.announced s (rw m sent) (rw (m, addressed) b.1) ∙ m;
        gone = λ h k y q.
            let z = o.sent-before k y g.index (rw p (registered-used c a n)) (q ∙ sym (rw p)) in
            let f : arrived (is_release a) l (step e l).number ≡ false = rw q at z.1 in
            g.gone (other_true r (arrived (is_release a) l (step e l).number) f h) k (rw z.0 at y) (rw z.0 at q);
      }

  registration_left : {e : End} {c r : Bool} (cs : List Call) → Reached e → e.initiator ≡ true → Registration e n a s x c r →
      Registration (left e cs) n a s x (c || some_arrived (completes a) cs (run e cs)) (r || some_arrived (is_release a) cs (run e cs))
  unfolding run
  registration_left {e} {c} {r} [] reached i g = rw (or_false c, or_false r) g
  registration_left {e} {c} {r} (l ∷ cs) reached i g =
      let o : Outcome = step e l in
      rw (← (or_assoc c (arrived (completes a) l o.number) _), ← (or_assoc r (arrived (is_release a) l o.number) _))
      (registration_left {e = o.next} cs (called l reached) ((numbers_stay e l).initiator ∙ i) (registration_step l reached i g))

-- ---- a delivery for the address

-- what an outcome says if a delivery for address a came with it
abbrev Delivers : ℕ → Control → Outcome → Type 0
Delivers a l o = (b k : ℕ) → o.given ≡ delivery a b k → (eqb o.number 0 && completes a l) ≡ true

-- it came with none
none : {A : Type 0} {a : ℕ} (b k : ℕ) → nothing ≡ delivery a b k → A
none b k h = absurd (nothing≢delivery h)

module _ (e : End) (a : ℕ) (l : Control) where
  bound_delivers : (x b n : ℕ) (its : List ℕ) (q : Search) → Claim (Delivers a l) (bound_to e x b n its q)
  bound_delivers x b n its nowhere = past-found e (binding_at (λ y. not y.stored) e.bindings) 22 none λ j _. record { holds = none }
  bound_delivers x b n its (found_at i) = record { holds = λ b k h. absurd (control≢delivery h) }

  named_delivers : (x b n : ℕ) (q : Name) → Claim (Delivers a l) (with_name e (bound_named e x b n) q)
  unfolding bound_named
  named_delivers x b n endless = record { holds = none }
  named_delivers x b n (name cs) =
      past e (leb 1 (length cs)) 20 none λ _.
      past e (not (some_endpoint (clashes x cs) e.endpoints) && not (some_binding (clashes_stored x cs) e.bindings)) 21 none λ _.
      bound_delivers x b n cs (endpoint_at (waiting_for cs) e.endpoints)

decoded_delivers : (e : End) (a : ℕ) (l : Control) (r : List ℕ) → Claim (Delivers a l) (answer (decoded_rule e l) r)
unfolding release_of released_bound_of
decoded_delivers e a UnknownKind r = record { holds = none }
decoded_delivers e a TooShort r = record { holds = none }
decoded_delivers e a (DataSent x b) r =
    let k : ℕ = size_in e b r in
    rw (data_flat e x b r)
    (past e (leb x 0xFD) 14 none λ _.
    past e (is_found (receiver e x)) 15 none λ _.
    past e (ltb b e.rx.block_count) 16 none λ _.
    past e (fits_area e.rx b k) 17 none λ _.
    past e (are_free e.held e.rx b k) 18 none λ _.
    record { holds = λ b k h. eq-eqb x a (delivery_address h) })
decoded_delivers e a (DataReleased b) r =
    past e (ltb b e.tx.block_count) 16 none λ _.
    past e (starts SentData e.tx.block_count e.sent b) 25 none λ _.
    record { holds = none }
decoded_delivers e a (BindingSent x b) r =
    let k : ℕ = size_in e b r in
    rw (bound_flat e x b r)
    (past e (not e.initiator) 19 none λ _.
    past e (leb x 0xFD) 14 none λ _.
    past e (ltb b e.rx.block_count) 16 none λ _.
    past e (fits_area e.rx b k) 17 none λ _.
    past e (are_free e.held e.rx b k) 18 none λ _.
    named_delivers e a (BindingSent x b) x b (blocks_for e.rx.block_size k) (name_in (min k 32) (content_at e b) r))
decoded_delivers e a (BindingReleased x b) r =
    past e (leb x 0xFD) 14 none λ _.
    past e (ltb b e.tx.block_count) 16 none λ _.
    past e (starts SentBinding e.tx.block_count e.sent b && eqb (entry e.sent b).address x) 25 none λ _.
    record { holds = none }

guarded_delivers : (e : End) (a : ℕ) (w : Bool) (l : Control) (r : List ℕ) → Claim (Delivers a l) (answer (guard w 6 e (decoded_rule e l)) r)
guarded_delivers e a true l r = decoded_delivers e a l r
guarded_delivers e a false l r = record { holds = none }

delivery-arrived : (e : End) (rx m : List ℕ) (a b k : ℕ) → (step e (arrival rx m)).given ≡ delivery a b k → arrived (completes a) (arrival rx m) (step e (arrival rx m)).number ≡ true
unfolding step rule read_from arrival_rule arrives
delivery-arrived e rx m a b k h = (guarded_delivers e a (whole e e.rx (length rx)) (decode m) rx).holds b k h

-- ---- 15

abbrev Not15 : Outcome → Type 0
Not15 o = o.number ≡ 15 → ⊥

module _ (e : End) (a : ℕ) where
  -- an initiator's endpoint in use is reached
  received_there : e.initiator ≡ true → length e.endpoints ≡ 8 → (i : ℕ) → is_used (endpoint_of e.endpoints i) ≡ true → (endpoint_of e.endpoints i).address ≡ a → is_found (receiver e a) ≡ true
  received_there r n i u q = rw r (go (is_found (endpoint_at (receives_at true a) e.endpoints)) refl)
    where
      go : (b : Bool) → is_found (endpoint_at (receives_at true a) e.endpoints) ≡ b → b ≡ true
      go true h = refl
      go false h = absurd (none_passes (receives_at true a) no_endpoint e.endpoints n refl (not_found _ h) i (rw (u, eq-eqb _ _ q)))

  data_15 : (b : ℕ) (r : List ℕ) → is_found (receiver e a) ≡ true → Claim Not15 (answer (data_rule e a b) r)
  data_15 b r h =
      let k : ℕ = size_in e b r in
      rw (data_flat e a b r, h)
      (past e (leb a 0xFD) 14 (λ z. omega (arith, z)) λ _.
      past e (ltb b e.rx.block_count) 16 (λ z. omega (arith, z)) λ _.
      past e (fits_area e.rx b k) 17 (λ z. omega (arith, z)) λ _.
      past e (are_free e.held e.rx b k) 18 (λ z. omega (arith, z)) λ _.
      record { holds = λ z. omega (arith, z) })

  guarded_15 : (w : Bool) (b : ℕ) (r : List ℕ) → is_found (receiver e a) ≡ true → Claim Not15 (answer (guard w 6 e (data_rule e a b)) r)
  guarded_15 true b r h = data_15 b r h
  guarded_15 false b r h = record { holds = λ z. omega (arith, z) }

  arrival_15 : (rx m : List ℕ) (b : ℕ) → is_found (receiver e a) ≡ true → decode m ≡ DataSent a b → Claim Not15 (step e (arrival rx m))
  unfolding step rule read_from arrival_rule
  arrival_15 rx m b h q = rw q (guarded_15 (whole e e.rx (length rx)) b rx h)

-- ---- past 15

module _ (e : End) (a b : ℕ) (r : List ℕ) (h : leb a 0xFD ≡ true) where
  data_passes : is_found (receiver e a) ≡ true → ltb b e.rx.block_count ≡ true → fits_area e.rx b (size_in e b r) ≡ true → are_free e.held e.rx b (size_in e b r) ≡ true →
      answer (data_rule e a b) r ≡ delivered e a b (size_in e b r)
  data_passes i k f u = data_flat e a b r ∙ rw (h, i, k, f, u)

  data_nobody : is_found (receiver e a) ≡ false → answer (data_rule e a b) r ≡ refused e 15
  data_nobody i = data_flat e a b r ∙ rw (h, i)

-- an arrival of data past 6
data_arrives : (e : End) (rx m : List ℕ) (a b : ℕ) → decode m ≡ DataSent a b → whole e e.rx (length rx) ≡ true → step e (arrival rx m) ≡ answer (data_rule e a b) rx
unfolding step rule read_from arrival_rule
data_arrives e rx m a b q t = rw (q, t)

-- ---- the release

release_zero : (e : End) (a s : ℕ) → leb a 0xFD ≡ true → ltb s e.tx.block_count ≡ true → starts SentBinding e.tx.block_count e.sent s ≡ true → (entry e.sent s).address ≡ a →
    (released_bound_of e a s).number ≡ 0
unfolding released_bound_of
release_zero e a s h k p q = rw (h, p, k, eq-eqb (entry e.sent s).address a q)

release_accepted : (e : End) (rx m : List ℕ) (a s : ℕ) → decode m ≡ BindingReleased a s → whole e e.rx (length rx) ≡ true → (released_bound_of e a s).number ≡ 0 → (step e (arrival rx m)).number ≡ 0
unfolding step rule read_from arrival_rule
release_accepted e rx m a s q t h = rw (q, t) h

-- it needs a sent binding of its address
abbrev NeedsBinding : End → ℕ → ℕ → Outcome → Type 0
NeedsBinding e a b o = o.number ≡ 0 → IsAnnounced e.sent b × ((entry e.sent b).address ≡ a)

released_needs : (e : End) (a b : ℕ) → Claim (NeedsBinding e a b) (released_bound_of e a b)
unfolding released_bound_of
released_needs e a b =
    past e (leb a 0xFD) 14 (λ h. absurd (omega (arith, h))) λ _.
    past e (ltb b e.tx.block_count) 16 (λ h. absurd (omega (arith, h))) λ _.
    past e (starts SentBinding e.tx.block_count e.sent b && eqb (entry e.sent b).address a) 25 (λ h. absurd (omega (arith, h))) λ y.
    let z = both (starts SentBinding e.tx.block_count e.sent b) (eqb (entry e.sent b).address a) y in
    record { holds = λ _. ((run_of SentBinding e.tx.block_count e.sent b z.0).use_is_it, eqb-true _ _ z.1) }

guarded_needs : (e : End) (w : Bool) (a b : ℕ) (r : List ℕ) → Claim (NeedsBinding e a b) (answer (guard w 6 e (decoded_rule e (BindingReleased a b))) r)
guarded_needs e true a b r = released_needs e a b
guarded_needs e false a b r = record { holds = λ h. absurd (omega (arith, h)) }

release_needs : (e : End) (rx m : List ℕ) (a b : ℕ) → decode m ≡ BindingReleased a b → Claim (NeedsBinding e a b) (step e (arrival rx m))
unfolding step rule read_from arrival_rule
release_needs e rx m a b q = rw q (guarded_needs e (whole e e.rx (length rx)) a b rx)

-- the binding's run lies inside, and its use is enough (O8)
module _ {e : End} (r : Reached e) (s : ℕ) (u : (entry e.sent s).usage ≡ SentBinding) where
  run_inside : ltb s e.tx.block_count ≡ true
  run_inside = let z = (separate e r).sent.within s (rw u) in lt-ltb s e.tx.block_count (omega (arith, z.0, z.1))

  run-starts : starts SentBinding e.tx.block_count e.sent s ≡ true
  run-starts = (nothing_added e r).sent_binding s ∙ rw u

-- ---- a bound endpoint has the address

bound_exactly : (ps : List Endpoint) (a : ℕ) (n : List ℕ) (c : Bool) → length ps ≡ 8 → (i : ℕ) → endpoint_of ps i ≡ registered_as c a n →
    ((j : ℕ) → is_used (endpoint_of ps j) ≡ true → (endpoint_of ps j).address ≡ a → j ≡ i) → some_endpoint (bound_at a) ps ≡ c
bound_exactly ps a n c len i q only = go c (endpoint_at (bound_at a) ps) refl q
  where
    go : (c : Bool) (f : Search) → endpoint_at (bound_at a) ps ≡ f → endpoint_of ps i ≡ registered_as c a n → is_found f ≡ c
    go true nowhere h q = absurd (none_passes (bound_at a) no_endpoint ps len refl h i (rw q (eq-eqb a a refl)))
    go true (found_at j) h q = refl
    go false nowhere h q = refl
    go false (found_at j) h q =
        let y = both (at is_bound (endpoint_of ps j)) (eqb (endpoint_of ps j).address a) (first-at (bound_at a) no_endpoint ps 8 0 j h).0 in
        let z = only j (bound_used (endpoint_of ps j).stage y.0) (eqb-true _ _ y.1) in
        absurd (false≢true (rw (z, q) at y.0))

-- ---- the theorems

module _ (e : End) (r : Reached e) (tx n : List ℕ) (a s : ℕ) (h : (step e (register tx n)).given ≡ control 2 a s) where
  abbrev first : End
  first = (step e (register tx n)).next

  abbrev x : Entry
  x = binding_run e a (length n)

  begins : (e.initiator ≡ true) × Registration (step e (register tx n)).next n a s x false false
  unfolding step rule read_from
  begins = pushed-announces (all_or_nothing_lem e tx (register_of e (length tx) n)) (register_says (separate e r) n a s (length tx)).holds h

  leads : first.initiator ≡ true
  leads = (numbers_stay e (register tx n)).initiator ∙ begins.0

  goes_on : (cs : List Call) → Registration (left first cs) n a s x (some_arrived (completes a) cs (run first cs)) (some_arrived (is_release a) cs (run first cs))
  goes_on cs = registration_left refl refl cs (called (register tx n) r) leads begins.1

  reached : (cs : List Call) → Reached (left first cs)
  reached cs = left-reached first cs (called (register tx n) r)

  still_leads : (d : End) (cs : List Call) → d.initiator ≡ true → (left d cs).initiator ≡ true
  still_leads d [] i = i
  still_leads d (c ∷ cs) i = still_leads (step d c).next cs ((numbers_stay d c).initiator ∙ i)

  data_binds : (cs cs' : List Call) (rx m : List ℕ) (b k : ℕ) → (step (left first cs) (arrival rx m)).given ≡ delivery a b k → IsBoundTo (left (step (left first cs) (arrival rx m)).next cs') n a
  data_binds cs cs' rx m b k z =
      let d : End = left first cs in
      let i = still_leads first cs leads in
      let g = registration_left refl refl cs' (called (arrival rx m) (reached cs)) ((numbers_stay d (arrival rx m)).initiator ∙ i) (registration_step refl refl (arrival rx m) (reached cs) i (goes_on cs)) in
      (g.index, g.endpoint ∙ rw (delivery-arrived d rx m a b k z, or_true (some_arrived (completes a) cs (run first cs))))

  -- its endpoint is in use, at its address
  its_endpoint : (cs : List Call) → (i : ℕ) × (is_used (endpoint_of (left first cs).endpoints i) ≡ true) × ((endpoint_of (left first cs).endpoints i).address ≡ a)
  its_endpoint cs = let g = goes_on cs in (g.index, rw g.endpoint (registered-used (some_arrived (completes a) cs (run first cs)) a n), rw g.endpoint)

  low : (cs : List Call) → leb a 0xFD ≡ true
  low cs =
      let p = its_endpoint cs in
      let y = (names_kept (left first cs) (reached cs)).endpoints_low p.0 (rw (still_leads first cs leads) p.1) in
      le-leb a 0xFD (rw p.2 at y)

  is-reached : (cs : List Call) → is_found (receiver (left first cs) a) ≡ true
  is-reached cs =
      let p = its_endpoint cs in
      received_there (left first cs) a (still_leads first cs leads) (separate (left first cs) (reached cs)).eight p.0 p.1 p.2

  data_taken : (cs : List Call) (rx m : List ℕ) (b : ℕ) → let d : End = left first cs in let k : ℕ = size_in d b rx in
      decode m ≡ DataSent a b → whole d d.rx (length rx) ≡ true → ltb b d.rx.block_count ≡ true → fits_area d.rx b k ≡ true → are_free d.held d.rx b k ≡ true →
      ((step d (arrival rx m)).number ≡ 0) × ((step d (arrival rx m)).given ≡ delivery a b k)
  data_taken cs rx m b q t k f u =
      let d : End = left first cs in
      let y = data_arrives d rx m a b q t ∙ data_passes d a b rx (low cs) (is-reached cs) k f u in
      (ap (λ (o : Outcome). o.number) y, ap (λ (o : Outcome). o.given) y)

  may_send : (cs : List Call) → some_endpoint (bound_at a) (left first cs).endpoints ≡ some_arrived (completes a) cs (run first cs)
  unfolding its_endpoint
  may_send cs = bound_exactly (left first cs).endpoints a n _ (separate (left first cs) (reached cs)).eight (goes_on cs).index (goes_on cs).endpoint
      (λ j u q. let p = its_endpoint cs in (names_kept (left first cs) (reached cs)).addresses.endpoints j (goes_on cs).index (rw (still_leads first cs leads) u) (rw (still_leads first cs leads) p.1) (q ∙ sym p.2))

  never_15 : (cs : List Call) (rx m : List ℕ) (b : ℕ) → decode m ≡ DataSent a b → (step (left first cs) (arrival rx m)).number ≡ 15 → ⊥
  never_15 cs rx m b q = (arrival_15 (left first cs) a rx m b (is-reached cs) q).holds

  release_taken : (cs : List Call) (rx m : List ℕ) → some_arrived (is_release a) cs (run first cs) ≡ false → decode m ≡ BindingReleased a s →
      whole (left first cs) (left first cs).rx (length rx) ≡ true → (step (left first cs) (arrival rx m)).number ≡ 0
  release_taken cs rx m z q t =
      let d : End = left first cs in
      let y = (goes_on cs).message z in
      let u : (entry d.sent s).usage ≡ SentBinding = rw y in
      release_accepted d rx m a s q t (release_zero d a s (low cs) (run_inside (reached cs) s u) (run-starts (reached cs) s u) (rw y))

  release_once : (cs : List Call) (rx m : List ℕ) (b : ℕ) → some_arrived (is_release a) cs (run first cs) ≡ true → decode m ≡ BindingReleased a b → (step (left first cs) (arrival rx m)).number ≡ 0 → ⊥
  release_once cs rx m b z q h =
      let y = (release_needs (left first cs) rx m a b q).holds h in
      (goes_on cs).gone z b y.0 y.1

pub binding_completes : BindingCompletes
binding_completes e r tx n a s h =
    record {
      by_history = goes_on e r tx n a s h;
      data_taken = data_taken e r tx n a s h;
      never_15 = never_15 e r tx n a s h;
      data_binds = data_binds e r tx n a s h;
      may_send = may_send e r tx n a s h;
      release_taken = release_taken e r tx n a s h;
      release_once = release_once e r tx n a s h;
    }

-- ---- a follower

-- whom data reaches there is bound already
bound_stays : (ps : List Endpoint) (a : ℕ) (q : Search) → endpoint_at (receives_at false a) ps ≡ q → bound_now ps a q ≡ ps
bound_stays ps a nowhere h = refl
bound_stays ps a (found_at i) h = bound_already ps a i (first-at (receives_at false a) no_endpoint ps 8 0 i h).0

abbrev SameEndpoints : End → Outcome → Type 0
SameEndpoints e o = o.next.endpoints ≡ e.endpoints

module _ (e : End) (follows : e.initiator ≡ false) where
  data_stays : (a b : ℕ) (r : List ℕ) → Claim (SameEndpoints e) (answer (data_rule e a b) r)
  unfolding changed
  data_stays a b r =
      let k : ℕ = size_in e b r in
      rw (data_flat e a b r)
      (past e (leb a 0xFD) 14 refl λ _.
      past e (is_found (receiver e a)) 15 refl λ _.
      past e (ltb b e.rx.block_count) 16 refl λ _.
      past e (fits_area e.rx b k) 17 refl λ _.
      past e (are_free e.held e.rx b k) 18 refl λ _.
      record { holds = bound_stays e.endpoints a (receiver e a) (rw follows) })

  guarded_stays : (w : Bool) (a b : ℕ) (r : List ℕ) → Claim (SameEndpoints e) (answer (guard w 6 e (data_rule e a b)) r)
  guarded_stays true a b r = data_stays a b r
  guarded_stays false a b r = record { holds = refl }

-- ---- whom data reaches

nobody-there : (e : End) (a : ℕ) → ((i : ℕ) → has_address e.initiator (endpoint_of e.endpoints i) ≡ true → (endpoint_of e.endpoints i).address ≡ a → ⊥) → is_found (receiver e a) ≡ false
nobody-there e a f = go (receiver e a) refl
  where
    go : (q : Search) → receiver e a ≡ q → is_found q ≡ false
    go nowhere h = refl
    go (found_at i) h =
        let p : Endpoint = endpoint_of e.endpoints i in
        let y = both (has_address e.initiator p) (eqb p.address a) (first-at (receives_at e.initiator a) no_endpoint e.endpoints 8 0 i h).0 in
        absurd (f i y.0 (eqb-true _ _ y.1))

data_follower : (e : End) (rx m : List ℕ) (a b : ℕ) → e.initiator ≡ false → decode m ≡ DataSent a b → (step e (arrival rx m)).next.endpoints ≡ e.endpoints
unfolding step rule read_from arrival_rule
data_follower e rx m a b r q = rw q (guarded_stays e r (whole e e.rx (length rx)) a b rx).holds

pub data_reaches : DataReaches
data_reaches =
    record {
      nobody = λ e rx m a b q t l f. ap (λ (o : Outcome). o.number) (data_arrives e rx m a b q t ∙ data_nobody e a b rx (le-leb a 0xFD l) (nobody-there e a f));
      follower = data_follower;
    }
