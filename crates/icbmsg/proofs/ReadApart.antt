-- No call but a pull looks at the own read index, as long as that is in rule: at the end with another one, each rule gives the same but for that
-- index.
use Prim.Native.Nat.{ℕ, ◌+◌, ◌*◌, min}
use mathlib.Core.Bool.{Bool, true, false, not, ◌&&◌, true≢false}
use mathlib.Core.Path.{◌≡◌, refl}
use mathlib.Core.List.{List, [], ◌∷◌}
use lib.Dec.{leb, ltb, eqb}
use lib.ListN.{length}
use Rattle.wire.specs.Choice.{pick}
use Rattle.wire.specs.Reads.{answer}
use Rattle.icmsg.specs.Rules.{Answer, refused as ringNo, accepted as ringYes, dropped as ringDropped, Outcome as RingOutcome, push_rule as ringPush, start_rule as ringStart}
use Rattle.blocks.specs.Names.{Name, endless, name, name_in}
use Rattle.blocks.specs.Search.{Search, nowhere, found_at, is_found}
use Rattle.blocks.specs.Tables.{entry, starts, starts_data, blocks_for, free_run}
use Rattle.blocks.specs.declared.Use.TheVariants.{Reserved, SentData, SentBinding}
use Rattle.endpoints.specs.Endpoints.{at, is_unused, bound_at, registered, waiting_for, holds, clashes, clashes_stored, endpoint_at, binding_at, some_endpoint, some_binding, good_name}
use Rattle.icbmsg.specs.Outcome.{Given, nothing, a_length, dropped, a_run, control, delivery, Outcome, ring_refused, without_place, check, guard}
use Rattle.icbmsg.specs.Ends.{is_open, found_or, changed, with_read}
use Rattle.icbmsg.specs.Rings.{transmit_ring, push_outcome, start_of, handed_on, pushing, all_or_nothing}
use Rattle.icbmsg.specs.Messages.{need, reserve_of, room_of, send_of, drop_of, view_of, done_of, room_question, view_question}
use Rattle.icbmsg.specs.Registering.{followed, initiates, register_of}
use Rattle.icbmsg.specs.Arrivals.{decode, fits_area, are_free, receiver, release_of, released_bound_of, bound_to, bound_named, decoded_rule, arrival_rule}
use Rattle.icbmsg.specs.declared.Control.{Control}
use Rattle.icbmsg.specs.declared.Control.TheVariants.{TooShort, UnknownKind, DataSent, DataReleased, BindingSent, BindingReleased}
use Rattle.icbmsg.specs.Calls.{Call, start, push, pull, reserve, room, send, drop, arrival, view, done, register, ask_room, ask_view, rule, read_from, step}
use Rattle.icbmsg.specs.Reading.{size_in, content_at}
use Rattle.icbmsg.specs.Pushing.{reading_at, is_pull, ReadApart}
use Rattle.icbmsg.specs.End.{End}
use Rattle.icbmsg.proofs.AllOrNothing.{push-answer, handed-answer}
use Rattle.icbmsg.proofs.ArrivingBytes.{with_name, bound_flat, data_flat}
use Rattle.icbmsg.proofs.Effects.{reads_to}
use Rattle.icbmsg.proofs.Refusals.{moved_open}

-- o at an end, and o' at the same with read index r
record Same (r : ℕ) (o o' : Outcome) : Type 0 where
  is : o' ≡ reading_at r o

module _ (e : End) (r : ℕ) where
  abbrev moved : End
  moved = with_read e r

  -- ---- checks, which both make

  checked : {o o' : Outcome} (b : Bool) (n : ℕ) → Same r o o' → Same r (check b n e o) (check b n moved o')
  checked true n h = h
  checked false n h = record { is = refl }

  found : {f f' : ℕ → Outcome} (q : Search) (n : ℕ) → ((s : ℕ) → Same r (f s) (f' s)) → Same r (found_or n e f q) (found_or n moved f' q)
  found nowhere n h = record { is = refl }
  found (found_at s) n h = h s

  picked : {o o' p p' : Outcome} (b : Bool) → Same r o o' → Same r p p' → Same r (pick b o p) (pick b o' p')
  picked true h k = h
  picked false h k = k

  asked : {o o' : Outcome} → Same r o o' → Same r (without_place o) (without_place o')
  asked h = record { is = rw h.is }

  -- ---- rings

  pushed-same : (b : Bool) (ws : List (ℕ × ℕ)) (a : Answer) → Same r (pick b (push_outcome e ws a) (ring_refused e 6)) (pick b (push_outcome moved ws a) (ring_refused moved 6))
  unfolding changed
  pushed-same true ws (ringNo n) = record { is = refl }
  pushed-same true ws (ringYes k i) = record { is = refl }
  pushed-same true ws (ringDropped n i) = record { is = refl }
  pushed-same false ws a = record { is = refl }

  handed-same : (o : Outcome) (ws : List (ℕ × ℕ)) (a : Answer) → handed_on moved (reading_at r o) ws a ≡ reading_at r (handed_on e o ws a)
  unfolding changed
  handed-same o ws (ringNo n) = refl
  handed-same o ws (ringYes k i) = refl
  handed-same o ws (ringDropped n i) = refl

  pushing-same : (tx : List ℕ) (o : Outcome) (g : Given) → answer (pushing moved (length tx) (reading_at r o) g) tx ≡ reading_at r (answer (pushing e (length tx) o g) tx)
  unfolding changed
  pushing-same tx o nothing = refl
  pushing-same tx o (a_length k) = refl
  pushing-same tx o (dropped n) = refl
  pushing-same tx o (a_run s n) = refl
  pushing-same tx o (control k a b) =
      let p : RingOutcome = ringPush tx (transmit_ring e) e.write (k ∷ a ∷ b ∷ []) in
      rw (handed-answer moved tx (reading_at r o) k a b, handed-answer e tx o k a b) (handed-same o p.region p.answer)
  pushing-same tx o (delivery a b k) = refl

  all_same : {o o' : Outcome} (tx : List ℕ) → Same r o o' → Same r (answer (all_or_nothing e (length tx) o) tx) (answer (all_or_nothing moved (length tx) o') tx)
  unfolding all_or_nothing
  all_same {o} tx h = record { is = rw h.is (pushing-same tx o o.given) }

  -- ---- each rule, at an open end

  module _ (o : is_open e ≡ true) (o' : is_open moved ≡ true) where
    reserve-same : (k : ℕ) → Same r (reserve_of e k) (reserve_of moved k)
    unfolding reserve_of changed
    reserve-same k =
        rw (o, o')
        (checked (leb (need e k) e.tx.block_count) 23
        (found (free_run e.tx.block_count e.sent (need e k)) 24 (λ s. record { is = refl })))

    room-same : (n s : ℕ) → Same r (room_of e n s) (room_of moved n s)
    unfolding room_of changed
    room-same n s =
        rw (o, o')
        (checked (eqb n e.tx.length) 6
        (checked (starts Reserved e.tx.block_count e.sent s) 25 (record { is = refl })))

    send-same : (n s a k : ℕ) → Same r (send_of e n s a k) (send_of moved n s a k)
    unfolding send_of changed
    send-same n s a k =
        rw (o, o')
        (checked (eqb n e.tx.length) 6
        (checked (starts Reserved e.tx.block_count e.sent s) 25
        (checked (some_endpoint (bound_at a) e.endpoints) 15
        (checked (leb (k + 4) ((entry e.sent s).count * e.tx.block_size)) 23 (record { is = refl })))))

    drop-same : (s : ℕ) → Same r (drop_of e s) (drop_of moved s)
    unfolding drop_of changed
    drop-same s = rw (o, o') (checked (starts Reserved e.tx.block_count e.sent s) 25 (record { is = refl }))

    view-same : (n s : ℕ) → Same r (view_of e n s) (view_of moved n s)
    unfolding view_of changed
    view-same n s =
        rw (o, o')
        (checked (eqb n e.rx.length) 6
        (checked (starts_data e.rx.block_count e.rx.block_size e.held s) 25 (record { is = refl })))

    done-same : (n s : ℕ) → Same r (done_of e n s) (done_of moved n s)
    unfolding done_of changed
    done-same n s =
        rw (o, o')
        (checked (eqb n e.tx.length) 6
        (checked (starts_data e.rx.block_count e.rx.block_size e.held s) 25 (record { is = refl })))

    initiates-same : (n : List ℕ) (i : ℕ) → Same r (initiates e n i) (initiates moved n i)
    unfolding initiates changed
    initiates-same n i =
        checked (leb (need e (length n + 1)) e.tx.block_count) 23
        (found (free_run e.tx.block_count e.sent (need e (length n + 1))) 24 (λ s. record { is = refl }))

    followed_same : (n : List ℕ) (i : ℕ) (q : Search) → Same r (followed e n i q) (followed moved n i q)
    unfolding changed
    followed_same n i nowhere = record { is = refl }
    followed_same n i (found_at j) = record { is = refl }

    register-same : (l : ℕ) (n : List ℕ) → Same r (register_of e l n) (register_of moved l n)
    unfolding register_of changed
    register-same l n =
        rw (o, o')
        (checked (eqb l e.tx.length) 6
        (checked (good_name 31 n) 20
        (checked (not (some_endpoint (registered n) e.endpoints)) 21
        (found (endpoint_at (at is_unused) e.endpoints) 22 (λ i.
        picked e.initiator (initiates-same n i) (followed_same n i (binding_at (holds e.rx.block_count n) e.bindings)))))))

    -- arrivals
    bound_to-same : (a b n : ℕ) (its : List ℕ) (q : Search) → Same r (bound_to e a b n its q) (bound_to moved a b n its q)
    unfolding changed
    bound_to-same a b n its nowhere = found (binding_at (λ x. not x.stored) e.bindings) 22 (λ j. record { is = refl })
    bound_to-same a b n its (found_at i) = record { is = refl }

    named-same : (a b n : ℕ) (q : Name) → Same r (with_name e (bound_named e a b n) q) (with_name moved (bound_named moved a b n) q)
    unfolding bound_named changed
    named-same a b n endless = record { is = refl }
    named-same a b n (name cs) =
        checked (leb 1 (length cs)) 20
        (checked (not (some_endpoint (clashes a cs) e.endpoints) && not (some_binding (clashes_stored a cs) e.bindings)) 21
        (bound_to-same a b n cs (endpoint_at (waiting_for cs) e.endpoints)))

    decoded_same : (l : Control) (rx : List ℕ) → Same r (answer (decoded_rule e l) rx) (answer (decoded_rule moved l) rx)
    unfolding release_of released_bound_of changed
    decoded_same UnknownKind rx = record { is = refl }
    decoded_same TooShort rx = record { is = refl }
    decoded_same (DataSent a b) rx =
        let k : ℕ = size_in e b rx in
        rw (data_flat e a b rx, data_flat moved a b rx)
        (checked (leb a 0xFD) 14
        (checked (is_found (receiver e a)) 15
        (checked (ltb b e.rx.block_count) 16
        (checked (fits_area e.rx b k) 17
        (checked (are_free e.held e.rx b k) 18 (record { is = refl }))))))
    decoded_same (DataReleased b) rx =
        checked (ltb b e.tx.block_count) 16
        (checked (starts SentData e.tx.block_count e.sent b) 25 (record { is = refl }))
    decoded_same (BindingSent a b) rx =
        let k : ℕ = size_in e b rx in
        rw (bound_flat e a b rx, bound_flat moved a b rx)
        (checked (not e.initiator) 19
        (checked (leb a 0xFD) 14
        (checked (ltb b e.rx.block_count) 16
        (checked (fits_area e.rx b k) 17
        (checked (are_free e.held e.rx b k) 18
        (named-same a b (blocks_for e.rx.block_size k) (name_in (min k 32) (content_at e b) rx)))))))
    decoded_same (BindingReleased a b) rx =
        checked (leb a 0xFD) 14
        (checked (ltb b e.tx.block_count) 16
        (checked (starts SentBinding e.tx.block_count e.sent b && eqb (entry e.sent b).address a) 25 (record { is = refl })))

    guarded_same : (w : Bool) (l : Control) (rx : List ℕ) → Same r (answer (guard w 6 e (decoded_rule e l)) rx) (answer (guard w 6 moved (decoded_rule moved l)) rx)
    guarded_same true l rx = decoded_same l rx
    guarded_same false l rx = record { is = refl }

    step_same : (c : Call) → is_pull c ≡ false → Same r (step e c) (step moved c)
    unfolding step rule read_from is_pull start_of room_question view_question arrival_rule changed
    step_same (start tx) n =
        let p : RingOutcome = ringStart (length tx) (transmit_ring e) in
        rw (o, o') (pushed-same (eqb (length tx) e.tx.length) p.region p.answer)
    step_same (push tx c) n =
        let p : RingOutcome = ringPush tx (transmit_ring e) e.write c in
        rw (push-answer e c tx, push-answer moved c tx, o, o') (pushed-same (eqb (length tx) e.tx.length) p.region p.answer)
    step_same (pull rx b) n = absurd (true≢false n)
    step_same (reserve k) n = reserve-same k
    step_same (room tx s) n = room-same (length tx) s
    step_same (send tx s a k) n = all_same tx (send-same (length tx) s a k)
    step_same (drop s) n = drop-same s
    step_same (arrival rx m) n = rw (o, o') (guarded_same (eqb (length rx) e.rx.length) (decode m) rx)
    step_same (view rx s) n = view-same (length rx) s
    step_same (done tx s) n = all_same tx (done-same (length tx) s)
    step_same (register tx m) n = all_same tx (register-same (length tx) m)
    step_same (ask_room s m) n = asked (room-same m s)
    step_same (ask_view s m) n = asked (view-same m s)

pub read_apart : ReadApart
read_apart e c r n o h = (step_same e r o (moved_open (reads_to e o r h) o) c n).is
