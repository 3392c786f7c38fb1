-- What a call may do to an end: each rule is walked once, and each theorem on lists of calls is then read off.
use Prim.Native.Nat.{ℕ, ◌+◌, ◌-◌, ◌*◌, ◌≤◌, ◌<◌, min}
use mathlib.Core.Bool.{Bool, true, false, not, ◌&&◌}
use mathlib.Core.Path.{◌≡◌, refl}
use mathlib.Core.List.{List, [], ◌∷◌}
use native.Mathlib.Omega.{arith}
use native.Mathlib.Nat.{mul-le-mul, mul-le-mul_right, add-mul}
use lib.Dec.{leb, ltb, eqb}
use lib.ListN.{length, set, length-set}
use borrow.Author.Tests.{ltb-true, leb-true, le-leb, not-true}
use Rattle.wire.specs.Choice.{pick}
use Rattle.wire.specs.Bytes.{same}
use Rattle.wire.specs.Reads.{answer}
use Rattle.wire.proofs.Choices.{both}
use Rattle.icmsg.specs.Ring.{in_rule}
use Rattle.icmsg.specs.Rules.{Outcome as RingOutcome, Answer, refused as ringNo, accepted as ringYes, dropped as ringDropped, push_rule as ringPush, start_rule as ringStart, pull_rule as ringPull}
use Rattle.icmsg.specs.Laws.{PlainAt}
use Rattle.icmsg.specs.declared.Ring.{Ring}
use Rattle.icmsg.proofs.Indexes.{indexes_in_rule, refusals, pull-refused}
use Rattle.icbmsg.specs.Outcome.{Given, nothing, Outcome, refused_with, ring_refused, dropped_to, refused, placed, without_place, check, guard}
use Rattle.blocks.specs.Search.{Search, nowhere, found_at, is_found}
use Rattle.blocks.specs.Tables.{entry, lies, starts, starts_data, all_free, freed, taken, run_entry, blocks_for, free_run}
use Rattle.icbmsg.specs.Ends.{block_at, sound_end, is_open, changed, with_write, with_read, found_or, whole}
use Rattle.endpoints.specs.Endpoints.{endpoint_at, binding_at, some_endpoint, some_binding, no_binding, at, is_unused, bound_at, registered, waiting_for, holds, clashes, clashes_stored, unused_from, good_name, waiting_at, bound_now}
use Rattle.icbmsg.specs.Rings.{ring_of, transmit_ring, push_outcome, pull_outcome, push_rule, start_of, pull_rule}
use Rattle.icbmsg.specs.Messages.{reserve_of, room_of, send_of, drop_of, view_of, done_of, room_question, view_question}
use Rattle.icbmsg.specs.Registering.{become, followed, initiates, register_of}
use Rattle.icbmsg.specs.Arrivals.{decode, fits_area, are_free, receiver, release_of, released_bound_of, bound_to, bound_named, bound_rule, decoded_rule, arrival_rule, data_rule}
use Rattle.icbmsg.specs.declared.Control.{Control}
use Rattle.icbmsg.specs.declared.Control.TheVariants.{TooShort, UnknownKind, DataSent, DataReleased, BindingSent, BindingReleased}
use Rattle.icbmsg.specs.Calls.{Call, start, push, pull, reserve, room, send, drop, arrival, view, done, register, ask_room, ask_view, rule, read_from, step}
use Rattle.icbmsg.specs.Reading.{size_in, content_at}
use Rattle.blocks.specs.WellFormed.{leading, block_kind, Live}
use Rattle.icbmsg.specs.WellFormed.{sent_run, binding_of}
use Rattle.icbmsg.specs.Ledger.{Side, transmit, receive, RunChange, no_change, takes, trims, frees, reserve_change, delivery_change, stored_change, register_change, arrival_change, run_change}
use Rattle.icbmsg.specs.Theorems.{SameNumbers, Part, no_part, length_part, pull_part, message_part, refused_given, part_of}
use Rattle.icbmsg.specs.Places.{InMessage, PartIn}
use Rattle.blocks.proofs.LeastBlocks.{blocks_hold, blocks_least, blocks-one}
use Rattle.blocks.proofs.Search.{first-at, lowest-at}
use Rattle.blocks.proofs.Tables.{run_of, live, data_run, Each, every}
use Rattle.icbmsg.specs.Pushing.{PushedOrNot, nothing_to_push, not_pushed, is_pushed}
use Rattle.icbmsg.proofs.AllOrNothing.{push-answer, all_or_nothing_lem, not_both}
use Rattle.icbmsg.proofs.RulesRead.{pull-answer}
use Rattle.icbmsg.proofs.ArrivingBytes.{with_name, bound_flat, data_flat}
use Rattle.blocks.specs.Names.{Name, endless, name, name_in, padded_name}
use Rattle.blocks.specs.declared.Use.{Use}
use Rattle.blocks.specs.declared.Use.TheVariants.{Reserved, SentData, SentBinding, ReceivedData, StoredBinding}
use Rattle.blocks.specs.declared.Entry.{Entry}
use Rattle.endpoints.specs.declared.Endpoint.{Endpoint}
use Rattle.endpoints.specs.declared.Binding.{Binding}
use Rattle.icbmsg.specs.declared.Region.{Region}
use Rattle.icbmsg.specs.End.{End}

-- ---- how an end may change

-- a table: nothing, free blocks are taken, a live run is freed, or trimmed
pub data SentChange (c : ℕ) (good : Entry → Bool) (t : List Entry) : RunChange → List Entry → Type 0 where
  as_sent : SentChange c good t no_change t
  run-taken : (u : Use) (s n a k : ℕ) → block_kind u ≡ leading → good (run_entry u n a k) ≡ true → all_free t s n ≡ true → 1 ≤ n → s + n ≤ c → SentChange c good t (takes transmit s n) (taken t u s n a k)
  run-freed : (s : ℕ) → Live t s → SentChange c good t (frees transmit s) (freed t s (entry t s).count)
  run_trimmed : (u : Use) (s n a k : ℕ) → Live t s → block_kind u ≡ leading → good (run_entry u n a k) ≡ true → 1 ≤ n → n ≤ (entry t s).count →
      SentChange c good t (trims transmit s n) (taken (freed t s (entry t s).count) u s n a k)

-- the received table with the stored bindings
pub data HeldChange (g : Region) (t : List Entry) (bs : List Binding) : RunChange → List Entry → List Binding → Type 0 where
  as_was : HeldChange g t bs no_change t bs
  receives : (s n a k : ℕ) → leb (k + 4) (n * g.block_size) ≡ true → all_free t s n ≡ true → 1 ≤ n → s + n ≤ g.block_count → HeldChange g t bs (takes receive s n) (taken t ReceivedData s n a k) bs
  finishes : (s : ℕ) → (entry t s).usage ≡ ReceivedData → HeldChange g t bs (frees receive s) (freed t s (entry t s).count) bs
  stores : (s n a j : ℕ) (name : List ℕ) → all_free t s n ≡ true → 1 ≤ n → s + n ≤ g.block_count → j < 8 → (binding_of bs j).stored ≡ false →
      HeldChange g t bs (takes receive s n) (taken t StoredBinding s n a 0) (set bs j (record { stored = true; address = a; start = s; count = n; name = name }))
  forgets : (j : ℕ) → j < 8 → (binding_of bs j).stored ≡ true →
      HeldChange g t bs (frees receive (binding_of bs j).start) (freed t (binding_of bs j).start (binding_of bs j).count) (set bs j no_binding)

-- as far as it is on side d
abbrev pub on_side : Side → RunChange → RunChange
on_side d no_change = no_change
on_side transmit (takes transmit s n) = takes transmit s n
on_side transmit (takes receive s n) = no_change
on_side transmit (trims transmit s n) = trims transmit s n
on_side transmit (trims receive s n) = no_change
on_side transmit (frees transmit s) = frees transmit s
on_side transmit (frees receive s) = no_change
on_side receive (takes transmit s n) = no_change
on_side receive (takes receive s n) = takes receive s n
on_side receive (trims transmit s n) = no_change
on_side receive (trims receive s n) = trims receive s n
on_side receive (frees transmit s) = no_change
on_side receive (frees receive s) = frees receive s

-- An end: its numbers stay, its own indexes stay in rule, and each table changes as the runs on its side do.
pub record EndChange (e : End) (x : RunChange) (e' : End) : Type 0 where
  pub numbers : SameNumbers e e'
  pub writes : in_rule e.tx.data_length e'.write ≡ true
  pub reads : in_rule e.rx.data_length e'.read ≡ true
  pub sent : SentChange e.tx.block_count (sent_run e.tx) e.sent (on_side transmit x) e'.sent
  pub held : HeldChange e.rx e.held e.bindings (on_side receive x) e'.held e'.bindings
  pub endpoints : length e'.endpoints ≡ length e.endpoints

-- ---- what a call does

-- f tells the change of the runs by what comes with the answer
pub data Effect (f : Given → RunChange) (e : End) (p : Part) : Outcome → Type 0 where
  refuses : (n : ℕ) → leb 1 n ≡ true → Effect f e p (refused_with (refused_given p) e n)
  drops : (n i : ℕ) (ws : List (ℕ × ℕ)) → p ≡ pull_part → is_open e ≡ true → in_rule e.rx.data_length i ≡ true → Effect f e p (dropped_to (with_read e i) n ws)
  accepts : {o : Outcome} → o.number ≡ 0 → is_open e ≡ true → PartIn e p o → EndChange e (f o.given) o.next → Effect f e p o

-- ---- checks

-- a check of number n, at a call that hands out no length
abbrev Plain : Part → ℕ → Type 0
Plain p n = (refused_given p ≡ nothing) × (leb 1 n ≡ true)

plainly : {f : Given → RunChange} {e : End} {p : Part} (n : ℕ) → Plain p n → Effect f e p (refused e n)
plainly {f} {e} {p} n h =
    let r : Effect f e p (refused_with (refused_given p) e n) = refuses n h.1 in
    rw h.0 at r

checked : {f : Given → RunChange} {e : End} {p : Part} {o : Outcome} (b : Bool) (n : ℕ) → Plain p n → (b ≡ true → Effect f e p o) → Effect f e p (check b n e o)
checked true n h k = k refl
checked false n h k = plainly n h

found : {f : Given → RunChange} {e : End} {p : Part} {o : ℕ → Outcome} (q : Search) (n : ℕ) → Plain p n → ((s : ℕ) → q ≡ found_at s → Effect f e p (o s)) → Effect f e p (found_or n e o q)
found nowhere n h k = plainly n h
found (found_at s) n h k = k s refl

picked : {f : Given → RunChange} {e : End} {p : Part} {o o' : Outcome} (b : Bool) → Effect f e p o → Effect f e p o' → Effect f e p (pick b o o')
picked true h k = h
picked false h k = k

pub sound : (e : End) → is_open e ≡ true → Each (sound_end e)
unfolding is_open
sound e h = every (sound_end e) h

-- ---- changes of an open end

pub same_numbers : {e : End} → SameNumbers e e
same_numbers = record { initiator = refl; alignment = refl; tx = refl; rx = refl }

module _ (e : End) (o : is_open e ≡ true) where
  pub stays : EndChange e no_change e
  stays = let z = sound e o in record { numbers = same_numbers; writes = z.1.1.1.0; reads = z.1.1.1.1.0; sent = as_sent; held = as_was; endpoints = refl }

  pub reads_to : (r : ℕ) → in_rule e.rx.data_length r ≡ true → EndChange e no_change (with_read e r)
  unfolding changed
  reads_to r h = let z = sound e o in record { numbers = record { initiator = refl; alignment = refl; tx = refl; rx = refl }; writes = z.1.1.1.0; reads = h; sent = as_sent; held = as_was; endpoints = refl }

  -- a change of runs that is on the transmit side alone, with these endpoints
  sends : {x : RunChange} {t : List Entry} (ps : List Endpoint) → on_side receive x ≡ no_change → SentChange e.tx.block_count (sent_run e.tx) e.sent (on_side transmit x) t → length ps ≡ length e.endpoints →
      EndChange e x (changed e e.write e.read t e.held ps e.bindings)
  unfolding changed
  sends ps q h l =
      let z = sound e o in
      record { numbers = record { initiator = refl; alignment = refl; tx = refl; rx = refl }; writes = z.1.1.1.0; reads = z.1.1.1.1.0; sent = h; held = rw q as_was; endpoints = l }

  -- and on the receive side
  keeps : {x : RunChange} {t : List Entry} {bs : List Binding} (ps : List Endpoint) → on_side transmit x ≡ no_change → HeldChange e.rx e.held e.bindings (on_side receive x) t bs → length ps ≡ length e.endpoints →
      EndChange e x (changed e e.write e.read e.sent t ps bs)
  unfolding changed
  keeps ps q h l =
      let z = sound e o in
      record { numbers = record { initiator = refl; alignment = refl; tx = refl; rx = refl }; writes = z.1.1.1.0; reads = z.1.1.1.1.0; sent = rw q as_sent; held = h; endpoints = l }

-- and the own write index moved on
writes_too : {e e' : End} {x : RunChange} (w : ℕ) → in_rule e.tx.data_length w ≡ true → EndChange e x e' → EndChange e x (with_write e' w)
unfolding changed
writes_too w h m =
    let n = m.numbers in
    record { numbers = record { initiator = n.initiator; alignment = n.alignment; tx = n.tx; rx = n.rx }; writes = h; reads = m.reads; sent = m.sent; held = m.held; endpoints = m.endpoints }

-- ---- runs

-- n blocks at s end inside the region's blocks
pub run_ends : (g : Region) (s n : ℕ) → s + n ≤ g.block_count → block_at g s + n * g.block_size ≤ g.blocks_offset + g.block_count * g.block_size
run_ends g s n h = omega (arith, mul-le-mul_right g.block_size h, add-mul s n g.block_size)

-- x bytes behind the header of a live run
in_message : (e : End) (g : Region) (t : List Entry) (s x : ℕ) → Live t s → s + (entry t s).count ≤ g.block_count → x + 4 ≤ (entry t s).count * g.block_size →
    InMessage g t s (placed e (block_at g s + 4) x)
in_message e g t s x l h k =
    let m = run_ends g s (entry t s).count h in
    record { live = l; after_header = omega arith; before_end = omega arith; first_block = omega arith; last_block = omega arith }

-- ---- each rule

pub whole_open : (e : End) (g : Region) (n : ℕ) → whole e g n ≡ true → is_open e ≡ true
whole_open e g n h = (both (is_open e) (eqb n g.length) h).0

-- the end's test says that an own index is in rule, and the other tests of a ring
write_effect : (e : End) (w : Bool) (ws : List (ℕ × ℕ)) (x : RingOutcome) (a : Answer) → (w ≡ true → is_open e ≡ true) → PlainAt x a →
    ((k i : ℕ) → a ≡ ringYes k i → in_rule e.tx.data_length i ≡ true) → Effect (λ _. no_change) e length_part (pick w (push_outcome e ws a) (ring_refused e 6))
write_effect e true ws x (ringNo n) o p q = refuses n (le-leb 1 n p.0)
write_effect e true ws x (ringYes k i) o p q = accepts refl (o refl) (refl, refl) (writes_too i (q k i refl) (stays e (o refl)))
write_effect e true ws x (ringDropped n i) o p q = absurd p
write_effect e false ws x a o p q = refuses _ refl

push_effect : (e : End) (tx c : List ℕ) → Effect (λ _. no_change) e length_part (answer (push_rule e (length tx) c) tx)
push_effect e tx c =
    let g : Ring = transmit_ring e in
    let o : RingOutcome = ringPush tx g e.write c in
    rw (push-answer e c tx)
    (write_effect e (whole e e.tx (length tx)) o.region o o.answer (whole_open e e.tx (length tx))
    (refusals.push tx g e.write c) (λ k i h. indexes_in_rule.push tx g e.write c k i h))

-- what is true of a rule before the ring is true behind it
pushed_effect : {e : End} {f : Given → RunChange} {tx : List ℕ} {o o' : Outcome} → PushedOrNot e tx o o' → Effect f e no_part o → Effect f e no_part o'
pushed_effect (nothing_to_push q) h = h
pushed_effect (not_pushed c n q r l) h = refuses n (le-leb 1 n l)
pushed_effect (is_pushed c k i q r) (refuses n l) = absurd (not_both q)
pushed_effect (is_pushed c k i q r) (drops n j ws p o z) = absurd (not_both q)
pushed_effect {e} {tx = tx} (is_pushed c k i q r) (accepts z o p m) = accepts z o p (writes_too i (indexes_in_rule.push tx (transmit_ring e) e.write c k i r) m)

start_effect : (e : End) (n : ℕ) → Effect (λ _. no_change) e length_part (start_of e n)
unfolding start_of
start_effect e n =
    let g : Ring = ring_of e.alignment e.tx in
    let o : RingOutcome = ringStart n g in
    write_effect e (whole e e.tx n) o.region o o.answer (whole_open e e.tx n)
    (refusals.start n g) (λ k i h. indexes_in_rule.start n g k i h)

read_effect : (e : End) (w : Bool) (ws bs : List (ℕ × ℕ)) (a : Answer) → (w ≡ true → is_open e ≡ true) → ((n : ℕ) → a ≡ ringNo n → 1 ≤ n) →
    ((k i : ℕ) → a ≡ ringYes k i → in_rule e.rx.data_length i ≡ true) → ((n i : ℕ) → a ≡ ringDropped n i → in_rule e.rx.data_length i ≡ true) →
    Effect (λ _. no_change) e pull_part (pick w (pull_outcome e ws bs a) (ring_refused e 6))
read_effect e true ws bs (ringNo n) o p q d = refuses n (le-leb 1 n (p n refl))
read_effect e true ws bs (ringYes k i) o p q d = accepts refl (o refl) (refl, refl) (reads_to e (o refl) i (q k i refl))
read_effect e true ws bs (ringDropped n i) o p q d = drops n i ws refl (o refl) (d n i refl)
read_effect e false ws bs a o p q d = refuses _ refl

pull_effect : (e : End) (r : List ℕ) (b : ℕ) → Effect (λ _. no_change) e pull_part (answer (pull_rule e (length r) b) r)
pull_effect e r b =
    let g : Ring = ring_of e.alignment e.rx in
    let o : RingOutcome = answer (ringPull (length r) g e.read b) r in
    rw (pull-answer e (length r) b r)
    (read_effect e (whole e e.rx (length r)) o.region o.buffer o.answer (whole_open e e.rx (length r))
    (λ n h. (pull-refused (length r) g e.read b r n h).0) (λ k i h. indexes_in_rule.pull (length r) g e.read b r k i h)
    (λ n i h. indexes_in_rule.drop (length r) g e.read b r n i h))

pub size_pos : (e : End) → is_open e ≡ true → (0 < e.tx.block_size) × (0 < e.rx.block_size)
size_pos e o = let z = sound e o in omega (arith, leb-true)

-- a run of as many blocks as K needs
take-run : (e : End) (u : Use) (a k m s : ℕ) → is_open e ≡ true → block_kind u ≡ leading → sent_run e.tx (run_entry u (blocks_for e.tx.block_size k) a m) ≡ true →
    free_run e.tx.block_count e.sent (blocks_for e.tx.block_size k) ≡ found_at s → SentChange e.tx.block_count (sent_run e.tx) e.sent (takes transmit s (blocks_for e.tx.block_size k)) (taken e.sent u s (blocks_for e.tx.block_size k) a m)
unfolding free_run
take-run e u a k m s o su g q =
    let w = lowest-at e.tx.block_count e.sent 0 (blocks_for e.tx.block_size k) e.tx.block_count s q in
    run-taken u s (blocks_for e.tx.block_size k) a m su g w.free-there (blocks-one e.tx.block_size k (size_pos e o).0) w.room

reserve_effect : (e : End) (k : ℕ) → Effect reserve_change e no_part (reserve_of e k)
unfolding reserve_of
reserve_effect e k =
    checked (is_open e) _ (refl, refl) λ o.
    checked (leb (blocks_for e.tx.block_size k) e.tx.block_count) _ (refl, refl) λ _.
    found (free_run e.tx.block_count e.sent (blocks_for e.tx.block_size k)) _ (refl, refl) λ s q.
    accepts refl o (refl, refl) (sends e o e.endpoints refl (take-run e Reserved 0 k 0 s o refl refl q) refl)

room_effect : (e : End) (n s : ℕ) → Effect (λ _. no_change) e (message_part transmit s) (room_of e n s)
unfolding room_of
room_effect e n s =
    checked (whole e e.tx n) _ (refl, refl) λ w.
    checked (starts Reserved e.tx.block_count e.sent s) _ (refl, refl) λ h.
    let o = whole_open e e.tx n w in
    let z = sound e o in
    let r = run_of Reserved e.tx.block_count e.sent s h in
    let x : ℕ = (entry e.sent s).count * e.tx.block_size in
    let l : 4 ≤ x = omega (arith, mul-le-mul r.one (leb-true 4 e.tx.block_size z.1.1.1.1.1.1.1.1.1.1.1.1.0)) in
    accepts refl o (in_message e e.tx e.sent s (x - 4) (live r refl) r.ends (omega arith)) (stays e o)

send_effect : (e : End) (n s a k : ℕ) → Effect (λ _. trims transmit s (blocks_for e.tx.block_size k)) e no_part (send_of e n s a k)
unfolding send_of
send_effect e n s a k =
    checked (whole e e.tx n) _ (refl, refl) λ w.
    checked (starts Reserved e.tx.block_count e.sent s) _ (refl, refl) λ h.
    checked (some_endpoint (bound_at a) e.endpoints) _ (refl, refl) λ _.
    checked (leb (k + 4) ((entry e.sent s).count * e.tx.block_size)) _ (refl, refl) λ f.
    let o = whole_open e e.tx n w in
    let r = run_of Reserved e.tx.block_count e.sent s h in
    let p = (size_pos e o).0 in
    accepts refl o (refl, refl)
    (sends e o e.endpoints refl
    (run_trimmed SentData s (blocks_for e.tx.block_size k) a k (live r refl) refl (le-leb (k + 4) (blocks_for e.tx.block_size k * e.tx.block_size) (blocks_hold e.tx.block_size k p)) (blocks-one e.tx.block_size k p)
    (blocks_least e.tx.block_size k (entry e.sent s).count (leb-true (k + 4) ((entry e.sent s).count * e.tx.block_size) f) p))
    refl)

drop_effect : (e : End) (s : ℕ) → Effect (λ _. frees transmit s) e no_part (drop_of e s)
unfolding drop_of
drop_effect e s =
    checked (is_open e) _ (refl, refl) λ o.
    checked (starts Reserved e.tx.block_count e.sent s) _ (refl, refl) λ h.
    accepts refl o (refl, refl) (sends e o e.endpoints refl (run-freed s (live (run_of Reserved e.tx.block_count e.sent s h) refl)) refl)

view_effect : (e : End) (n s : ℕ) → Effect (λ _. no_change) e (message_part receive s) (view_of e n s)
unfolding view_of
view_effect e n s =
    checked (whole e e.rx n) _ (refl, refl) λ w.
    checked (starts_data e.rx.block_count e.rx.block_size e.held s) _ (refl, refl) λ h.
    let d = data_run e.rx.block_count e.rx.block_size e.held s h in
    accepts refl (whole_open e e.rx n w) (in_message e e.rx e.held s (entry e.held s).length (live d.0 refl) d.0.ends d.1) (stays e (whole_open e e.rx n w))

done_effect : (e : End) (n s : ℕ) → Effect (λ _. frees receive s) e no_part (done_of e n s)
unfolding done_of
done_effect e n s =
    checked (whole e e.tx n) _ (refl, refl) λ w.
    checked (starts_data e.rx.block_count e.rx.block_size e.held s) _ (refl, refl) λ h.
    let o = whole_open e e.tx n w in
    accepts refl o (refl, refl) (keeps e o e.endpoints refl (finishes s (data_run e.rx.block_count e.rx.block_size e.held s h).0.use_is_it) refl)

-- a question on a part hands out none
asked : {e : End} {p : Part} {o : Outcome} → refused_given p ≡ nothing → Effect (λ _. no_change) e p o → Effect (λ _. no_change) e no_part (without_place o)
asked q (refuses n h) = rw q (refuses n h)
asked q (drops n i ws h o r) =
    let x : refused_given pull_part ≡ nothing = rw h at q in
    let z : ◌≡◌ {A = ℕ} 0 1 = cc in
    absurd (omega arith)
asked q (accepts z o i m) = accepts z o (refl, refl) m

-- register
initiates_effect : (e : End) (n : List ℕ) (i : ℕ) → is_open e ≡ true → Effect (register_change (blocks_for e.tx.block_size (length n + 1))) e no_part (initiates e n i)
unfolding initiates
initiates_effect e n i o =
    let k : ℕ = length n + 1 in
    checked (leb (blocks_for e.tx.block_size k) e.tx.block_count) _ (refl, refl) λ _.
    found (free_run e.tx.block_count e.sent (blocks_for e.tx.block_size k)) _ (refl, refl) λ s q.
    accepts refl o (refl, refl)
    (sends e o (become e i _ (unused_from 8 0 e.endpoints) n) refl
    (take-run e SentBinding (unused_from 8 0 e.endpoints) k k s o refl (le-leb (k + 4) (blocks_for e.tx.block_size k * e.tx.block_size) (blocks_hold e.tx.block_size k (size_pos e o).0)) q)
    (length-set e.endpoints i _))

followed_effect : (e : End) (n : List ℕ) (i : ℕ) (q : Search) → is_open e ≡ true → binding_at (holds e.rx.block_count n) e.bindings ≡ q → Effect (register_change (blocks_for e.tx.block_size (length n + 1))) e no_part (followed e n i q)
followed_effect e n i nowhere o h = accepts refl o (refl, refl) (keeps e o (become e i _ 0 n) refl as_was (length-set e.endpoints i _))
followed_effect e n i (found_at j) o h =
    let w = first-at (holds e.rx.block_count n) no_binding e.bindings 8 0 j h in
    let b : Binding = binding_of e.bindings j in
    let z = every (b.stored ∷ same b.name (padded_name n) ∷ lies e.rx.block_count b.start b.count ∷ []) w.0 in
    accepts refl o (refl, refl) (keeps e o (become e i _ b.address n) refl (forgets j (omega arith) z.0) (length-set e.endpoints i _))

register_effect : (e : End) (l : ℕ) (n : List ℕ) → Effect (register_change (blocks_for e.tx.block_size (length n + 1))) e no_part (register_of e l n)
unfolding register_of
register_effect e l n =
    checked (whole e e.tx l) _ (refl, refl) λ w.
    checked (good_name 31 n) _ (refl, refl) λ _.
    checked (not (some_endpoint (registered n) e.endpoints)) _ (refl, refl) λ _.
    found (endpoint_at (at is_unused) e.endpoints) _ (refl, refl) λ i _.
    let o = whole_open e e.tx l w in
    picked e.initiator (initiates_effect e n i o) (followed_effect e n i (binding_at (holds e.rx.block_count n) e.bindings) o refl)

-- arrivals
-- blocks of K from b on lie inside
fit_run : (g : Region) (b k : ℕ) → 0 < g.block_size → ltb b g.block_count ≡ true → leb (k + 4) ((g.block_count - b) * g.block_size) ≡ true → b + blocks_for g.block_size k ≤ g.block_count
fit_run g b k p h f =
    let l = ltb-true b g.block_count h in
    omega (arith, blocks_least g.block_size k (g.block_count - b) (leb-true (k + 4) ((g.block_count - b) * g.block_size) f) p)

bound_now-length : (ps : List Endpoint) (a : ℕ) (q : Search) → length (bound_now ps a q) ≡ length ps
bound_now-length ps a nowhere = refl
bound_now-length ps a (found_at i) = length-set ps i _

data_effect : (e : End) (a b : ℕ) (r : List ℕ) → is_open e ≡ true → Effect (delivery_change e.rx.block_size) e no_part (answer (data_rule e a b) r)
data_effect e a b r o =
    let k : ℕ = size_in e b r in
    let g : Region = e.rx in
    let p = (size_pos e o).1 in
    rw (data_flat e a b r)
    (checked (leb a 0xFD) _ (refl, refl) λ _.
    checked (is_found (receiver e a)) _ (refl, refl) λ _.
    checked (ltb b g.block_count) _ (refl, refl) λ h.
    checked (fits_area e.rx b k) _ (refl, refl) λ f.
    checked (are_free e.held e.rx b k) _ (refl, refl) λ u.
    let m = fit_run g b k p h f in
    let x = blocks_hold g.block_size k p in
    accepts refl o (refl, refl)
    (keeps e o (bound_now e.endpoints a (receiver e a)) refl
    (receives b (blocks_for g.block_size k) a k (le-leb (k + 4) (blocks_for g.block_size k * g.block_size) x) u (blocks-one g.block_size k p) m)
    (bound_now-length e.endpoints a (receiver e a))))

release_effect : (e : End) (b : ℕ) → is_open e ≡ true → Effect (λ _. frees transmit b) e no_part (release_of e b)
unfolding release_of
release_effect e b o =
    checked (ltb b e.tx.block_count) _ (refl, refl) λ _.
    checked (starts SentData e.tx.block_count e.sent b) _ (refl, refl) λ h.
    accepts refl o (refl, refl) (sends e o e.endpoints refl (run-freed b (live (run_of SentData e.tx.block_count e.sent b h) refl)) refl)

binding_released_effect : (e : End) (a b : ℕ) → is_open e ≡ true → Effect (λ _. frees transmit b) e no_part (released_bound_of e a b)
unfolding released_bound_of
binding_released_effect e a b o =
    checked (leb a 0xFD) _ (refl, refl) λ _.
    checked (ltb b e.tx.block_count) _ (refl, refl) λ _.
    checked (starts SentBinding e.tx.block_count e.sent b && eqb (entry e.sent b).address a) _ (refl, refl) λ h.
    let r = run_of SentBinding e.tx.block_count e.sent b (both (starts SentBinding e.tx.block_count e.sent b) _ h).0 in
    let q : Search = endpoint_at (waiting_at a) e.endpoints in
    accepts refl o (refl, refl) (sends e o (bound_now e.endpoints a q) refl (run-freed b (live r refl)) (bound_now-length e.endpoints a q))

bound_to_effect : (e : End) (a b n : ℕ) (its : List ℕ) (q : Search) → is_open e ≡ true → all_free e.held b n ≡ true → 1 ≤ n → b + n ≤ e.rx.block_count →
    Effect (stored_change b n) e no_part (bound_to e a b n its q)
bound_to_effect e a b n its nowhere o f l m =
    found (binding_at (λ x. not x.stored) e.bindings) _ (refl, refl) λ j h.
    let w = first-at (λ x. not x.stored) no_binding e.bindings 8 0 j h in
    accepts refl o (refl, refl) (keeps e o e.endpoints refl (stores b n a j (padded_name its) f l m (omega arith) (not-true _ w.0)) refl)
bound_to_effect e a b n its (found_at i) o f l m = accepts refl o (refl, refl) (keeps e o (become e i _ a its) refl as_was (length-set e.endpoints i _))

named_effect : (e : End) (a b n : ℕ) (q : Name) → is_open e ≡ true → all_free e.held b n ≡ true → 1 ≤ n → b + n ≤ e.rx.block_count →
    Effect (stored_change b n) e no_part (with_name e (bound_named e a b n) q)
unfolding bound_named
named_effect e a b n endless o f l m = refuses _ refl
named_effect e a b n (name cs) o f l m =
    checked (leb 1 (length cs)) _ (refl, refl) λ _.
    checked (not (some_endpoint (clashes a cs) e.endpoints) && not (some_binding (clashes_stored a cs) e.bindings)) _ (refl, refl) λ _.
    bound_to_effect e a b n cs (endpoint_at (waiting_for cs) e.endpoints) o f l m

bound_effect : (e : End) (a b : ℕ) (r : List ℕ) → is_open e ≡ true → Effect (stored_change b (blocks_for e.rx.block_size (size_in e b r))) e no_part (answer (bound_rule e a b) r)
bound_effect e a b r o =
    let k : ℕ = size_in e b r in
    let g : Region = e.rx in
    let p = (size_pos e o).1 in
    rw (bound_flat e a b r)
    (checked (not e.initiator) _ (refl, refl) λ _.
    checked (leb a 0xFD) _ (refl, refl) λ _.
    checked (ltb b g.block_count) _ (refl, refl) λ h.
    checked (fits_area e.rx b k) _ (refl, refl) λ f.
    checked (are_free e.held e.rx b k) _ (refl, refl) λ u.
    named_effect e a b (blocks_for g.block_size k) (name_in (min k 32) (content_at e b) r) o u (blocks-one g.block_size k p) (fit_run g b k p h f))

decoded_effect : (e : End) (l : Control) (r : List ℕ) → is_open e ≡ true → Effect (arrival_change e.rx r l) e no_part (answer (decoded_rule e l) r)
decoded_effect e UnknownKind r o = refuses _ refl
decoded_effect e TooShort r o = refuses _ refl
decoded_effect e (DataSent a b) r o = data_effect e a b r o
decoded_effect e (DataReleased b) r o = release_effect e b o
decoded_effect e (BindingSent a b) r o = bound_effect e a b r o
decoded_effect e (BindingReleased a b) r o = binding_released_effect e a b o

arrival_effect : (e : End) (w : Bool) (l : Control) (r : List ℕ) → (w ≡ true → is_open e ≡ true) → Effect (arrival_change e.rx r l) e no_part (answer (guard w 6 e (decoded_rule e l)) r)
arrival_effect e true l r h = decoded_effect e l r (h refl)
arrival_effect e false l r h = refuses _ refl

-- ---- each call

pub effect : (e : End) (c : Call) → Effect (run_change e.tx e.rx c) e (part_of c) (step e c)
unfolding step rule read_from part_of run_change arrival_rule room_question view_question
effect e (start tx) = start_effect e (length tx)
effect e (push tx c) = push_effect e tx c
effect e (pull rx b) = pull_effect e rx (length b)
effect e (reserve k) = reserve_effect e k
effect e (room tx s) = room_effect e (length tx) s
effect e (send tx s a k) = pushed_effect (all_or_nothing_lem e tx (send_of e (length tx) s a k)) (send_effect e (length tx) s a k)
effect e (drop s) = drop_effect e s
effect e (arrival rx m) = arrival_effect e (whole e e.rx (length rx)) (decode m) rx (whole_open e e.rx (length rx))
effect e (view rx s) = view_effect e (length rx) s
effect e (done tx s) = pushed_effect (all_or_nothing_lem e tx (done_of e (length tx) s)) (done_effect e (length tx) s)
effect e (register tx n) = pushed_effect (all_or_nothing_lem e tx (register_of e (length tx) n)) (register_effect e (length tx) n)
effect e (ask_room s n) = asked refl (room_effect e n s)
effect e (ask_view s n) = asked refl (view_effect e n s)
