-- Every write of every call lies in the call's area, and inside the slice that it goes to: each rule is walked, and what is refused writes
-- nothing.
use Prim.Native.Nat.{ℕ, ◌+◌, ◌*◌, ◌≤◌}
use mathlib.Core.Bool.{Bool, true, false, not}
use mathlib.Core.Path.{◌≡◌, refl, sym}
use mathlib.Core.List.{List, [], ◌∷◌, ◌++◌, append-nil}
use native.Mathlib.Omega.{arith}
use lib.Dec.{leb, eqb}
use lib.ListN.{length, length-append}
use borrow.Author.Tests.{leb-true, eqb-true}
use Rattle.wire.specs.Choice.{pick}
use Rattle.wire.specs.Bytes.{little_endian, straight, writes, Within, Inside}
use Rattle.wire.specs.Reads.{answer}
use Rattle.wire.proofs.Choices.{both}
use Rattle.wire.proofs.Positions.{within-append, within-straight, within_wider}
use Rattle.icmsg.specs.Rules.{Outcome as RingOutcome, Answer, refused as ringNo, accepted as ringYes, dropped as ringDropped, push_rule as ringPush, start_rule as ringStart, pull_rule as ringPull}
use Rattle.icmsg.specs.Laws.{InRing, InWritersPart}
use Rattle.icmsg.specs.declared.Ring.{Ring}
use Rattle.icmsg.proofs.WritesInside.{writes_inside}
use Rattle.blocks.specs.Search.{Search, nowhere, found_at}
use Rattle.blocks.specs.Tables.{entry, starts, starts_data, free_run}
use Rattle.blocks.specs.Names.{Name, endless, name}
use Rattle.blocks.specs.declared.Use.TheVariants.{Reserved}
use Rattle.blocks.proofs.LeastBlocks.{blocks_hold, blocks_least}
use Rattle.blocks.proofs.Search.{lowest-at}
use Rattle.blocks.proofs.Tables.{run_of}
use Rattle.endpoints.specs.Endpoints.{at, is_unused, bound_at, registered, holds, endpoint_at, binding_at, some_endpoint, good_name}
use Rattle.icbmsg.specs.Outcome.{Given, nothing, Outcome, refused, ring_refused, without_place, check}
use Rattle.icbmsg.specs.Ends.{block_at, is_open, whole, found_or}
use Rattle.icbmsg.specs.Rings.{transmit_ring, receive_ring, push_outcome, pull_outcome, start_of, pull_rule}
use Rattle.icbmsg.specs.Messages.{need, reserve_of, room_of, send_of, drop_of, view_of, done_of, room_question, view_question}
use Rattle.icbmsg.specs.Registering.{followed, initiates, register_of}
use Rattle.icbmsg.specs.Arrivals.{release_of, released_bound_of, bound_to, bound_named, decoded_rule, arrival_rule}
use Rattle.icbmsg.specs.declared.Control.{Control}
use Rattle.icbmsg.specs.declared.Control.TheVariants.{TooShort, UnknownKind, DataSent, DataReleased, BindingSent, BindingReleased}
use Rattle.icbmsg.specs.Calls.{start, push, pull, reserve, room, send, drop, arrival, view, done, register, ask_room, ask_view, rule, lent, read_from, step}
use Rattle.icbmsg.specs.Places.{Area, no_area, tx_ring, rx_ring, a_packet, run_and_packet, register_area, InRunAt, area_of, InArea, WritesIn, WritesInside}
use Rattle.icbmsg.specs.End.{End}
use Rattle.icbmsg.specs.Pushing.{contents, PushedOrNot, nothing_to_push, not_pushed, is_pushed}
use Rattle.icbmsg.proofs.Claims.{Claim, past, past-found, past-picked}
use Rattle.icbmsg.proofs.AllOrNothing.{push-answer, all_or_nothing_lem, not_both}
use Rattle.icbmsg.proofs.RulesRead.{pull-answer, answer-guard}
use Rattle.icbmsg.proofs.ArrivingBytes.{with_name, bound_flat, data_flat}
use Rattle.icbmsg.proofs.Effects.{sound, run_ends, whole_open, size_pos}

-- no write lies in every area
none_in : (e : End) (a : Area) → InArea e a [] []
none_in e no_area = (refl, refl)
none_in e tx_ring = (tt, refl)
none_in e rx_ring = (refl, tt)
none_in e a_packet = (tt, refl)
none_in e (run_and_packet s n) = (record { message = []; packet = []; all = refl; in_run = tt; on_ring = tt }, refl)

-- an outcome without a write, refused or not
quiet : {e x : End} {f : Given → Area} {t r b n p m : ℕ} {g : Given} → WritesIn e f t r b (record { number = n; given = g; begin = p; size = m; tx = []; rx = []; buffer = []; next = x })
quiet {e} {f = f} {g = g} = record { area = none_in e (f g); tx = tt; rx = tt; buffer = tt }

-- ---- checks

checked : {f : Given → Area} {t r b : ℕ} {o : Outcome} (x : Bool) (n : ℕ) (e : End) → (x ≡ true → WritesIn e f t r b o) → WritesIn e f t r b (check x n e o)
checked true n e k = k refl
checked false n e k = quiet

found : {f : Given → Area} {t r b : ℕ} {o : ℕ → Outcome} (n : ℕ) (e : End) (q : Search) → ((s : ℕ) → q ≡ found_at s → WritesIn e f t r b (o s)) → WritesIn e f t r b (found_or n e o q)
found n e nowhere k = quiet
found n e (found_at s) k = k s refl

-- a question on a part
asked : {e : End} {f : Given → Area} {t r b : ℕ} {o : Outcome} → WritesIn e f t r b o → WritesIn e f t r b (without_place o)
asked h = record { area = h.area; tx = h.tx; rx = h.rx; buffer = h.buffer }

-- ---- the calls on the rings

write_in : {t : ℕ} (e : End) (x : Area) (w : Bool) (ws : List (ℕ × ℕ)) (a : Answer) → InArea e x ws [] → Inside t ws → WritesIn e (λ _. x) t 0 0 (pick w (push_outcome e ws a) (ring_refused e 6))
write_in e x true ws (ringNo n) h k = quiet
write_in e x true ws (ringYes m i) h k = record { area = h; tx = k; rx = tt; buffer = tt }
write_in e x true ws (ringDropped n i) h k = quiet
write_in e x false ws a h k = quiet

read_in : {r b : ℕ} (e : End) (w : Bool) (ws bs : List (ℕ × ℕ)) (a : Answer) → InRing (receive_ring e) ws × Inside r ws → Inside b bs →
    WritesIn e (λ _. rx_ring) 0 r b (pick w (pull_outcome e ws bs a) (ring_refused e 6))
read_in e true ws bs (ringNo n) h k = quiet
read_in e true ws bs (ringYes m i) h k = record { area = (refl, h.0); tx = tt; rx = h.1; buffer = k }
read_in e true ws bs (ringDropped n i) h k = record { area = (refl, h.0); tx = tt; rx = h.1; buffer = tt }
read_in e false ws bs a h k = quiet

pull_in : (e : End) (r : List ℕ) (b : ℕ) → WritesIn e (λ _. rx_ring) 0 (length r) b (answer (pull_rule e (length r) b) r)
pull_in e r b =
    let g : Ring = receive_ring e in
    let o : RingOutcome = answer (ringPull (length r) g e.read b) r in
    rw (pull-answer e (length r) b r)
    (read_in e (whole e e.rx (length r)) o.region o.buffer o.answer
    (writes_inside.pull_region (length r) g e.read b r) (writes_inside.pull_buffer (length r) g e.read b r))

-- ---- the calls that push a control message, and write into a block before it

-- so much of the area as a rule writes before the ring
abbrev InBlocks : End → Area → List (ℕ × ℕ) → Type 0
InBlocks e no_area ts = ts ≡ []
InBlocks e tx_ring ts = ts ≡ []
InBlocks e rx_ring ts = ts ≡ []
InBlocks e a_packet ts = ts ≡ []
InBlocks e (run_and_packet s n) ts = InRunAt e s n ts

-- an area that a packet is written to
abbrev HasPacket : Area → Type 0
HasPacket no_area = ⊥
HasPacket tx_ring = ⊥
HasPacket rx_ring = ⊥
HasPacket a_packet = Unit {0}
HasPacket (run_and_packet s n) = Unit {0}

record BlocksIn (e : End) (f : Given → Area) (t : ℕ) (o : Outcome) : Type 0 where
  area : InBlocks e (f o.given) o.tx
  packet : (c : List ℕ) → contents o.given ≡ c ∷ [] → HasPacket (f o.given)
  tx : Inside t o.tx
  rx : o.rx ≡ []
  buffer : o.buffer ≡ []

blocks-area : (e : End) (a : Area) (ts : List (ℕ × ℕ)) → InBlocks e a ts → InArea e a ts []
blocks-area e no_area ts h = (h, refl)
blocks-area e tx_ring ts h = rw h (tt, refl)
blocks-area e rx_ring ts h = (h, tt)
blocks-area e a_packet ts h = rw h (tt, refl)
blocks-area e (run_and_packet s n) ts h = (record { message = ts; packet = []; all = sym (append-nil ts); in_run = h; on_ring = tt }, refl)

packet-area : (e : End) (a : Area) (ts ws : List (ℕ × ℕ)) → HasPacket a → InBlocks e a ts → InWritersPart (transmit_ring e) ws → InArea e a (ts ++ ws) []
packet-area e no_area ts ws p h k = absurd p
packet-area e tx_ring ts ws p h k = absurd p
packet-area e rx_ring ts ws p h k = absurd p
packet-area e a_packet ts ws p h k = rw h (k, refl)
packet-area e (run_and_packet s n) ts ws p h k = (record { message = ts; packet = ws; all = refl; in_run = h; on_ring = k }, refl)

pushed_in : {e : End} {f : Given → Area} {tx : List ℕ} {o o' : Outcome} → PushedOrNot e tx o o' → BlocksIn e f (length tx) o → WritesIn e f (length tx) 0 0 o'
pushed_in {e} {f} {o = o} (nothing_to_push q) h = record { area = rw h.rx (blocks-area e (f o.given) o.tx h.area); tx = h.tx; rx = rw h.rx tt; buffer = rw h.buffer tt }
pushed_in (not_pushed c n q r l) h = quiet
pushed_in {e} {f} {tx = tx} {o = o} (is_pushed c k i q r) h =
    let z = writes_inside.push tx (transmit_ring e) e.write c in
    record {
      area = rw h.rx (packet-area e (f o.given) o.tx _ (h.packet c q) h.area z.0);
      tx = within-append 0 (length tx) o.tx _ h.tx z.1;
      rx = rw h.rx tt;
      buffer = rw h.buffer tt;
    }

-- a refusal
none : (e : End) (f : Given → Area) (t n : ℕ) → InBlocks e (f nothing) [] → BlocksIn e f t (refused e n)
none e f t n h = record { area = h; packet = λ c q. absurd (not_both q); tx = tt; rx = refl; buffer = refl }

-- the blocks lie in the region, and a whole slice is as long as it
blocks-inside : (e : End) (n : ℕ) → whole e e.tx n ≡ true → e.tx.blocks_offset + e.tx.block_count * e.tx.block_size ≤ n
blocks-inside e n w =
    let z = sound e (whole_open e e.tx n w) in
    let q = both (is_open e) (eqb n e.tx.length) w in
    omega (arith, leb-true, eqb-true)

-- bs goes to the begin of the n blocks at s, which are a run of the area, and is no longer than these
run_in : (e : End) (l s n : ℕ) (bs : List ℕ) → whole e e.tx l ≡ true → s + n ≤ e.tx.block_count → length bs ≤ n * e.tx.block_size →
    InRunAt e s n (writes (straight (block_at e.tx s)) bs) × Inside l (writes (straight (block_at e.tx s)) bs)
run_in e l s n bs w h f =
    let p : ℕ = block_at e.tx s in
    let k : Within p (p + n * e.tx.block_size) (writes (straight p) bs) = within-straight p (p + n * e.tx.block_size) p bs (omega arith) (omega arith) in
    (k, within_wider p (p + n * e.tx.block_size) 0 l (writes (straight p) bs) (omega arith) (omega (arith, blocks-inside e l w, run_ends e.tx s n h)) k)

-- the header
send_in : (e : End) (n s a k : ℕ) → Claim (BlocksIn e (λ _. run_and_packet s (need e k)) n) (send_of e n s a k)
unfolding send_of little_endian
send_in e n s a k =
    let no : (m : ℕ) → BlocksIn e (λ _. run_and_packet s (need e k)) n (refused e m) = λ m. none e (λ _. run_and_packet s (need e k)) n m tt in
    past e (whole e e.tx n) 6 (no 6) λ w.
    past e (starts Reserved e.tx.block_count e.sent s) 25 (no 25) λ h.
    past e (some_endpoint (bound_at a) e.endpoints) 15 (no 15) λ _.
    past e (leb (k + 4) ((entry e.sent s).count * e.tx.block_size)) 23 (no 23) λ f.
    let p = (size_pos e (whole_open e e.tx n w)).0 in
    let m = blocks_least e.tx.block_size k (entry e.sent s).count (leb-true _ _ f) p in
    let z = run_in e n s (need e k) (little_endian 4 k) w (omega (arith, (run_of Reserved e.tx.block_count e.sent s h).ends)) (omega (arith, blocks_hold e.tx.block_size k p)) in
    record { holds = record { area = z.0; packet = λ _ _. tt; tx = z.1; rx = refl; buffer = refl } }

done_in : (e : End) (n s : ℕ) → Claim (BlocksIn e (λ _. a_packet) n) (done_of e n s)
unfolding done_of
done_in e n s =
    past e (whole e e.tx n) 6 (none e (λ _. a_packet) n 6 refl) λ _.
    past e (starts_data e.rx.block_count e.rx.block_size e.held s) 25 (none e (λ _. a_packet) n 25 refl) λ _.
    record { holds = record { area = refl; packet = λ _ _. tt; tx = tt; rx = refl; buffer = refl } }

-- the header, the name and a zero
initiates_in : (e : End) (l : ℕ) (n : List ℕ) (i : ℕ) → whole e e.tx l ≡ true → Claim (BlocksIn e (register_area e n) l) (initiates e n i)
unfolding initiates free_run little_endian
initiates_in e l n i w =
    let k : ℕ = length n + 1 in
    past e (leb (need e k) e.tx.block_count) 23 (none e (register_area e n) l 23 refl) λ _.
    past-found e (free_run e.tx.block_count e.sent (need e k)) 24 (none e (register_area e n) l 24 refl) λ s q.
    let z = run_in e l s (need e k) (little_endian 4 k ++ n ++ (0 ∷ [])) w (lowest-at e.tx.block_count e.sent 0 (need e k) e.tx.block_count s q).room
    (simp length-append (omega (arith, blocks_hold e.tx.block_size k (size_pos e (whole_open e e.tx l w)).0))) in
    record { holds = record { area = z.0; packet = λ _ _. tt; tx = z.1; rx = refl; buffer = refl } }

followed_in : {l : ℕ} (e : End) (n : List ℕ) (i : ℕ) (q : Search) → Claim (BlocksIn e (register_area e n) l) (followed e n i q)
followed_in e n i nowhere = record { holds = record { area = refl; packet = λ c q. absurd (not_both q); tx = tt; rx = refl; buffer = refl } }
followed_in e n i (found_at j) = record { holds = record { area = refl; packet = λ _ _. tt; tx = tt; rx = refl; buffer = refl } }

register_in : (e : End) (l : ℕ) (n : List ℕ) → Claim (BlocksIn e (register_area e n) l) (register_of e l n)
unfolding register_of
register_in e l n =
    let no : (m : ℕ) → BlocksIn e (register_area e n) l (refused e m) = λ m. none e (register_area e n) l m refl in
    past e (whole e e.tx l) 6 (no 6) λ w.
    past e (good_name 31 n) 20 (no 20) λ _.
    past e (not (some_endpoint (registered n) e.endpoints)) 21 (no 21) λ _.
    past-found e (endpoint_at (at is_unused) e.endpoints) 22 (no 22) λ i _.
    past-picked e.initiator (initiates_in e l n i w) (followed_in e n i (binding_at (holds e.rx.block_count n) e.bindings))

-- ---- arriving control messages, which write nothing

bound_to_in : {r : ℕ} (e : End) (a b n : ℕ) (its : List ℕ) (q : Search) → WritesIn e (λ _. no_area) 0 r 0 (bound_to e a b n its q)
bound_to_in e a b n its nowhere = search (found, quiet)
bound_to_in e a b n its (found_at i) = quiet

named_in : {r : ℕ} (e : End) (a b n : ℕ) (q : Name) → WritesIn e (λ _. no_area) 0 r 0 (with_name e (bound_named e a b n) q)
unfolding bound_named
named_in e a b n endless = quiet
named_in e a b n (name cs) = search (checked, bound_to_in)

decoded_in : {k : ℕ} (e : End) (l : Control) (r : List ℕ) → WritesIn e (λ _. no_area) 0 k 0 (answer (decoded_rule e l) r)
unfolding release_of released_bound_of
decoded_in e UnknownKind r = quiet
decoded_in e TooShort r = quiet
decoded_in e (DataSent a b) r = rw (data_flat e a b r) (search (checked, quiet) depth 6)
decoded_in e (DataReleased b) r = search (checked, quiet)
decoded_in e (BindingSent a b) r = rw (bound_flat e a b r) (search (checked, named_in) depth 6)
decoded_in e (BindingReleased a b) r = search (checked, quiet)

-- ---- each call

room_in : (e : End) (n s : ℕ) {l : ℕ} → WritesIn e (λ _. no_area) l 0 0 (room_of e n s)
unfolding room_of
room_in e n s = search (checked, quiet)

view_in : (e : End) (n s : ℕ) {l : ℕ} → WritesIn e (λ _. no_area) 0 l 0 (view_of e n s)
unfolding view_of
view_in e n s = search (checked, quiet)

pub writes_stay_inside : WritesInside
unfolding step rule read_from lent area_of start_of reserve_of drop_of room_question view_question arrival_rule
writes_stay_inside e (start tx) =
    let o : RingOutcome = ringStart (length tx) (transmit_ring e) in
    let z = writes_inside.start (length tx) (transmit_ring e) in
    write_in e tx_ring (whole e e.tx (length tx)) o.region o.answer (z.0, refl) z.1
writes_stay_inside e (push tx c) =
    let o : RingOutcome = ringPush tx (transmit_ring e) e.write c in
    let z = writes_inside.push tx (transmit_ring e) e.write c in
    rw (push-answer e c tx) (write_in e a_packet (whole e e.tx (length tx)) o.region o.answer (z.0, refl) z.1)
writes_stay_inside e (pull rx b) = pull_in e rx (length b)
writes_stay_inside e (reserve k) = search (checked, found, quiet)
writes_stay_inside e (room tx s) = room_in e (length tx) s
writes_stay_inside e (send tx s a k) = pushed_in (all_or_nothing_lem e tx (send_of e (length tx) s a k)) (send_in e (length tx) s a k).holds
writes_stay_inside e (drop s) = search (checked, quiet)
writes_stay_inside e (arrival rx m) = rw answer-guard (search (checked, decoded_in))
writes_stay_inside e (view rx s) = view_in e (length rx) s
writes_stay_inside e (done tx s) = pushed_in (all_or_nothing_lem e tx (done_of e (length tx) s)) (done_in e (length tx) s).holds
writes_stay_inside e (register tx n) = pushed_in (all_or_nothing_lem e tx (register_of e (length tx) n)) (register_in e (length tx) n).holds
writes_stay_inside e (ask_room s n) = asked (room_in e n s)
writes_stay_inside e (ask_view s n) = asked (view_in e n s)
