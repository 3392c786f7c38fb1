-- Every rule asks for just the bytes that are listed.
use Prim.Native.Nat.{ℕ, zero, suc, min}
use mathlib.Core.Bool.{Bool, true, false, not, ◌&&◌}
use mathlib.Core.Path.{◌≡◌, refl, ap, ◌∙◌}
use mathlib.Core.List.{List, [], ◌∷◌, ◌++◌}
use lib.Dec.{leb, ltb, eqb}
use lib.ListN.{length, get_or}
use Rattle.wire.specs.Choice.{pick}
use Rattle.wire.specs.Reads.{gives, answer, positions_read}
use Rattle.icmsg.specs.Rules.{Answer, refused, accepted, dropped as ringDropped, answer_number, Outcome as RingOutcome, push_tree as ringPush, pull_rule as ringPull}
use Rattle.icmsg.specs.Reading.{past, partner_index, pull_positions, is_one_of}
use Rattle.icmsg.specs.declared.Ring.{Ring}
use Rattle.icmsg.proofs.PullReads.{pull_reads_what_is_listed}
use Rattle.icmsg.proofs.PushReads.{push_reads_the_index}
use Rattle.icbmsg.specs.Outcome.{Outcome, ring_refused, Rule, check, guard}
use Rattle.blocks.specs.Search.{Search, nowhere, found_at, is_found}
use Rattle.blocks.specs.Tables.{blocks_for}
use Rattle.endpoints.specs.Endpoints.{endpoint_at, binding_at, some_endpoint, some_binding, clashes, clashes_stored, waiting_for}
use Rattle.blocks.specs.Names.{padded_name}
use Rattle.icbmsg.specs.Ends.{whole, found_or}
use Rattle.icbmsg.specs.Rings.{transmit_ring, receive_ring, push_outcome, pushed, push_rule, pull_outcome, pulled, pull_rule}
use Rattle.icbmsg.specs.Arrivals.{decode, header_at, decoded_rule, arrival_rule, bound_rule, bound_sized, bound_named, up_to_zero, fits_area, are_free, receiver, bound_to, binding_stored, data_rule}
use Rattle.icbmsg.specs.declared.Control.{Control}
use Rattle.icbmsg.specs.declared.Control.TheVariants.{TooShort, UnknownKind, DataSent, DataReleased, BindingSent, BindingReleased}
use Rattle.icbmsg.specs.Calls.{start, push, pull, reserve, room, send, drop, arrival, view, done, register, ask_room, ask_view, rule, read_from, step}
use Rattle.icbmsg.specs.Reading.{size_in, content_at, zero_ended, arrival_reads, reading, RulesRead}
use Rattle.icbmsg.specs.Messages.{send_of, done_of}
use Rattle.icbmsg.specs.Registering.{register_of}
use Rattle.icbmsg.specs.End.{End}
use Rattle.icbmsg.proofs.BeforeRing.{send-before, done-before, register-before}
use Rattle.icbmsg.proofs.PushedReads.{positions_read-map, pushed-reads}
use Rattle.wire.proofs.Trees.{answer-unless, answer-read_each, answer-and_then, positions_read-unless}

positions_read-guard : (b : Bool) (n : ℕ) (e : End) (t : Rule) (r : List ℕ) → positions_read (guard b n e t) r ≡ pick b (positions_read t r) []
positions_read-guard true n e t r = refl
positions_read-guard false n e t r = refl

number-guard : (b : Bool) (n : ℕ) (e : End) (t : Rule) (r : List ℕ) → (answer (guard b n e t) r).number ≡ pick b (answer t r).number n
number-guard true n e t r = refl
number-guard false n e t r = refl

pub answer-guard : (b : Bool) (n : ℕ) (e : End) (t : Rule) (r : List ℕ) → answer (guard b n e t) r ≡ check b n e (answer t r)
answer-guard true n e t r = refl
answer-guard false n e t r = refl

-- pull: what the ring reads, past 6
pub number-pulled : (e : End) (ws bs : List (ℕ × ℕ)) (a : Answer) → (pull_outcome e ws bs a).number ≡ answer_number a
number-pulled e ws bs (refused n) = refl
number-pulled e ws bs (accepted k i) = refl
number-pulled e ws bs (ringDropped n i) = refl

pub pull-answer : (e : End) (n b : ℕ) (r : List ℕ) → answer (pull_rule e n b) r ≡ pick (whole e e.rx n) (pulled e (answer (ringPull n (receive_ring e) e.read b) r)) (ring_refused e 6)
unfolding pull_rule
pull-answer e n b r = simp (answer-unless, answer-and_then)

-- the tree, with the test that the slice is whole apart
pull-asks : (e : End) (n b : ℕ) (r : List ℕ) → positions_read (pull_rule e n b) r ≡ pick (whole e e.rx n) (positions_read (ringPull n (receive_ring e) e.read b) r) []
unfolding pull_rule
pull-asks e n b r = simp (positions_read-unless, positions_read-map)

pull_cases : (e : End) (w : Bool) (g : Ring) (i b : ℕ) (r ps : List ℕ) (o : RingOutcome) → ps ≡ pull_positions g i b r (answer_number o.answer) →
    pick w ps [] ≡ pull_positions g i b r (pick w (pulled e o) (ring_refused e 6)).number
pull_cases e true g i b r ps o h = rw (number-pulled e o.region o.buffer o.answer) h
pull_cases e false g i b r ps o h = refl

pull_reads : (e : End) (r b : List ℕ) → positions_read (rule e (pull r b)) r ≡ reading e (pull r b)
unfolding rule read_from step reading
pull_reads e r b =
    rw (pull-answer e (length r) (length b) r, pull-asks e (length r) (length b) r)
    (pull_cases e (whole e e.rx (length r)) (receive_ring e) e.read (length b) r _ (answer (ringPull (length r) (receive_ring e) e.read (length b)) r)
    (pull_reads_what_is_listed (length r) (receive_ring e) e.read (length b) r))

-- push: what the ring reads, past 6
number_pushed : (e : End) (ws : List (ℕ × ℕ)) (a : Answer) → (push_outcome e ws a).number ≡ answer_number a
number_pushed e ws (refused n) = refl
number_pushed e ws (accepted k i) = refl
number_pushed e ws (ringDropped n i) = refl

push_cases : (e : End) (w : Bool) (ps qs : List ℕ) (o : RingOutcome) → ps ≡ past (6 ∷ 11 ∷ []) (answer_number o.answer) qs →
    pick w ps [] ≡ past (6 ∷ 11 ∷ []) (pick w (pushed e o) (ring_refused e 6)).number qs
push_cases e true ps qs o h = rw (number_pushed e o.region o.answer) h
push_cases e false ps qs o h = refl

push-asks : (e : End) (n : ℕ) (c s : List ℕ) → positions_read (push_rule e n c) s ≡ pick (whole e e.tx n) (positions_read (ringPush n (transmit_ring e) e.write c) s) []
unfolding push_rule
push-asks e n c s = simp (positions_read-unless, positions_read-map)

push-gives : (e : End) (n : ℕ) (c s : List ℕ) → answer (push_rule e n c) s ≡ pick (whole e e.tx n) (pushed e (answer (ringPush n (transmit_ring e) e.write c) s)) (ring_refused e 6)
unfolding push_rule
push-gives e n c s = simp (answer-unless, answer-and_then)

push_reads : (e : End) (tx c : List ℕ) → positions_read (rule e (push tx c)) tx ≡ reading e (push tx c)
unfolding rule read_from step reading
push_reads e tx c =
    rw (push-asks e (length tx) c tx, push-gives e (length tx) c tx)
    (push_cases e (whole e e.tx (length tx)) _ (partner_index (transmit_ring e)) (answer (ringPush (length tx) (transmit_ring e) e.write c) tx) (push_reads_the_index.asks (length tx) (transmit_ring e) e.write c tx))

-- kind 0
data_cases : (a b c f u : Bool) (H : List ℕ) (n : ℕ) → n ≡ pick a (pick b (pick c (pick f (pick u 0 18) 17) 16) 15) 14 →
    pick a (pick b (pick c H []) []) [] ≡ past (6 ∷ 14 ∷ 15 ∷ 16 ∷ []) n H
data_cases true true true true true H n q = rw q
data_cases true true true true false H n q = rw q
data_cases true true true false u H n q = rw q
data_cases true true false f u H n q = rw q
data_cases true false c f u H n q = rw q
data_cases false b c f u H n q = rw q

pick_nil : (b : Bool) → pick {A = List ℕ} b [] [] ≡ []
pick_nil true = refl
pick_nil false = refl

data_asks : (e : End) (a b : ℕ) (r : List ℕ) → positions_read (data_rule e a b) r ≡ arrival_reads e r (answer (data_rule e a b) r).number (DataSent a b)
unfolding data_rule
data_asks e a b r =
    (simp (positions_read-guard, pick_nil))
    ∙ data_cases (leb a 0xFD) (is_found (receiver e a)) (ltb b e.rx.block_count) (fits_area e.rx b (size_in e b r)) (are_free e.held e.rx b (size_in e b r)) (header_at e.rx b)
    (answer (data_rule e a b) r).number (simp (number-guard, answer-read_each))

-- kind 2: its last numbers are none of the checks before the name
record Late (n : ℕ) : Type 0 where
  header : is_one_of n (6 ∷ 19 ∷ 14 ∷ 16 ∷ []) ≡ false
  name : is_one_of n (6 ∷ 19 ∷ 14 ∷ 16 ∷ 17 ∷ 18 ∷ []) ≡ false

check_late : (b : Bool) (n : ℕ) (e : End) (o : Outcome) → Late n → Late o.number → Late (check b n e o).number
check_late true n e o h k = k
check_late false n e o h k = h

place_late : (n : ℕ) (e : End) (f : ℕ → Outcome) (p : Search) → Late n → ((i : ℕ) → Late (f i).number) → Late (found_or n e f p).number
place_late n e f nowhere h k = h
place_late n e f (found_at i) h k = k i

bound_late : (e : End) (a b n : ℕ) (name : List ℕ) (p : Search) → Late (bound_to e a b n name p).number
bound_late e a b n name nowhere =
    place_late 22 e (binding_stored e a b n (padded_name name)) (binding_at (λ x. not x.stored) e.bindings) (record { header = refl; name = refl }) (λ i. record { header = refl; name = refl })
bound_late e a b n name (found_at i) = record { header = refl; name = refl }

named_late : (e : End) (a b n : ℕ) (name : List ℕ) → Late (bound_named e a b n name).number
unfolding bound_named
named_late e a b n name =
    check_late (leb 1 (length name)) 20 e _ (record { header = refl; name = refl })
    (check_late (not (some_endpoint (clashes a name) e.endpoints) && not (some_binding (clashes_stored a name) e.bindings)) 21 e _ (record { header = refl; name = refl })
    (bound_late e a b n name (endpoint_at (waiting_for name) e.endpoints)))

positions_read-pick : (b : Bool) (t u : Rule) (r : List ℕ) → positions_read (pick b t u) r ≡ pick b (positions_read t r) (positions_read u r)
positions_read-pick true t u r = refl
positions_read-pick false t u r = refl

pick_late : (b : Bool) (t u : Rule) (r : List ℕ) → Late (answer t r).number → Late (answer u r).number → Late (answer (pick b t u) r).number
pick_late true t u r h k = h
pick_late false t u r h k = k

name-asks : (e : End) (n p : ℕ) (f : List ℕ → Outcome) (r : List ℕ) → positions_read (up_to_zero e n p (λ cs. gives (f cs))) r ≡ zero_ended n p r
name-asks e zero p f r = refl
name-asks e (suc n) p f r =
    ap (λ (l : List ℕ). p ∷ l)
    (positions_read-pick (eqb (get_or r p 0) 0) (gives (f [])) (up_to_zero e n (suc p) (λ cs. gives (f (get_or r p 0 ∷ cs)))) r
    ∙ ap (λ (l : List ℕ). pick (eqb (get_or r p 0) 0) [] l) (name-asks e n (suc p) (λ cs. f (get_or r p 0 ∷ cs)) r))

name_late : (e : End) (n p : ℕ) (f : List ℕ → Outcome) (r : List ℕ) → ((cs : List ℕ) → Late (f cs).number) → Late (answer (up_to_zero e n p (λ cs. gives (f cs))) r).number
name_late e zero p f r h = record { header = refl; name = refl }
name_late e (suc n) p f r h =
    pick_late (eqb (get_or r p 0) 0) (gives (f [])) (up_to_zero e n (suc p) (λ cs. gives (f (get_or r p 0 ∷ cs)))) r (h [])
    (name_late e n (suc p) (λ cs. f (get_or r p 0 ∷ cs)) r (λ cs. h (get_or r p 0 ∷ cs)))

bound_cases : (i a c f u : Bool) (H N : List ℕ) (x n : ℕ) → Late x → n ≡ pick i (pick a (pick c (pick f (pick u x 18) 17) 16) 14) 19 →
    pick i (pick a (pick c (H ++ pick f (pick u N []) []) []) []) [] ≡ past (6 ∷ 19 ∷ 14 ∷ 16 ∷ []) n H ++ past (6 ∷ 19 ∷ 14 ∷ 16 ∷ 17 ∷ 18 ∷ []) n N
bound_cases true true true true true H N x n l q = rw (q, l.header, l.name)
bound_cases true true true true false H N x n l q = rw q
bound_cases true true true false u H N x n l q = rw q
bound_cases true true false f u H N x n l q = rw q
bound_cases true false c f u H N x n l q = rw q
bound_cases false a c f u H N x n l q = rw q

bound_asks : (e : End) (a b : ℕ) (r : List ℕ) → positions_read (bound_rule e a b) r ≡ arrival_reads e r (answer (bound_rule e a b) r).number (BindingSent a b)
unfolding bound_rule bound_sized
bound_asks e a b r =
    let k : ℕ = size_in e b r in
    let f : List ℕ → Outcome = bound_named e a b (blocks_for e.rx.block_size k) in
    (simp (positions_read-guard, name-asks))
    ∙ bound_cases (not e.initiator) (leb a 0xFD) (ltb b e.rx.block_count) (fits_area e.rx b k) (are_free e.held e.rx b k) (header_at e.rx b) (zero_ended (min k 32) (content_at e b) r)
    (answer (up_to_zero e (min k 32) (content_at e b) (λ cs. gives (f cs))) r).number
    (answer (bound_rule e a b) r).number
    (name_late e (min k 32) (content_at e b) f r (named_late e a b (blocks_for e.rx.block_size k)))
    (simp (number-guard, answer-read_each))

decoded_reads : (e : End) (w : Bool) (l : Control) (r : List ℕ) → positions_read (guard w 6 e (decoded_rule e l)) r ≡ arrival_reads e r (answer (guard w 6 e (decoded_rule e l)) r).number l
decoded_reads e true UnknownKind r = refl
decoded_reads e true TooShort r = refl
decoded_reads e true (DataSent a b) r = data_asks e a b r
decoded_reads e true (DataReleased b) r = refl
decoded_reads e true (BindingSent a b) r = bound_asks e a b r
decoded_reads e true (BindingReleased a b) r = refl
decoded_reads e false UnknownKind r = refl
decoded_reads e false TooShort r = refl
decoded_reads e false (DataSent a b) r = refl
decoded_reads e false (DataReleased b) r = refl
decoded_reads e false (BindingSent a b) r = refl
decoded_reads e false (BindingReleased a b) r = refl

pub rules_read : RulesRead
unfolding rule read_from step reading arrival_rule
rules_read e (start tx) = refl
rules_read e (push tx c) = push_reads e tx c
rules_read e (pull r b) = pull_reads e r b
rules_read e (reserve k) = refl
rules_read e (room tx s) = refl
rules_read e (send tx s a k) = pushed-reads e tx (send_of e (length tx) s a k) (send-before e (length tx) s a k).holds
rules_read e (drop s) = refl
rules_read e (arrival r m) = decoded_reads e (whole e e.rx (length r)) (decode m) r
rules_read e (view rx s) = refl
rules_read e (done tx s) = pushed-reads e tx (done_of e (length tx) s) (done-before e (length tx) s).holds
rules_read e (register tx n) = pushed-reads e tx (register_of e (length tx) n) (register-before e (length tx) n).holds
rules_read e (ask_room s n) = refl
rules_read e (ask_view s n) = refl
