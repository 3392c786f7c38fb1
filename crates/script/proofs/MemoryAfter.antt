-- The memory after a call, and after a write to it.
use Prim.Native.Nat.{ℕ, suc, ◌+◌, ◌-◌, ◌≤◌, ◌<◌, min}
use mathlib.Core.Bool.{Bool, true, false}
use mathlib.Core.Path.{◌≡◌, refl, sym, ap, ◌∙◌}
use mathlib.Core.List.{List, [], ◌∷◌, ◌++◌}
use native.Mathlib.Omega.{arith}
use native.Mathlib.Nat.{min-eq_left, min-eq_right}
use lib.Dec.{leb}
use lib.ListN.{length, take, drop, set, length-take, length-drop, length-set, take-append-drop}
use lib.Seq.{set-append_left, set_out, take_all}
use borrow.Author.Tests.{leb-true, leb-false}
use Rattle.wire.specs.Bytes.{straight, bytes, writes, wrote, Inside}
use Rattle.wire.proofs.Positions.{within_wider, length-wrote, wrote-append, writes-append, bytes-part, bytes_at-same, bytes-all}
use Rattle.wire.specs.Reads.{answer}
use Rattle.blocks.specs.Tables.{starts, starts_data}
use Rattle.blocks.specs.declared.Use.TheVariants.{Reserved}
use Rattle.icbmsg.specs.Outcome.{Outcome, check}
use Rattle.icbmsg.specs.Ends.{whole}
use Rattle.icbmsg.specs.Rings.{start_of, push_rule, pull_rule}
use Rattle.icbmsg.specs.Messages.{room_of, view_of, send_rule, done_rule}
use Rattle.icbmsg.specs.Registering.{register_rule}
use Rattle.icbmsg.specs.Calls.{Call, start, push, pull, reserve, room, send, drop as dropCall, arrival, view, done, register, ask_room, ask_view, rule, lent, read_from, step}
use Rattle.icbmsg.specs.End.{End}
use Rattle.icbmsg.proofs.Writes.{writes_stay_inside}
use Rattle.script.specs.Records.{number_at}
use Rattle.script.specs.Calls.{call_of, call_outcome, Wrote}
use Rattle.script.specs.declared.kinds.CallKind.{CallKind}
use Rattle.script.specs.declared.kinds.CallKind.TheVariants.{Arrival, Register, Reserve, Send, Drop, Done, Push, Start, Pull, Room, View, RoomQuestion, ViewQuestion}
use Rattle.script.proofs.Memory.{first_least}

-- ---- writes inside the first bytes

pub none_inside : (ws : List (ℕ × ℕ)) → Inside 0 ws → ws ≡ []
none_inside [] h = refl
none_inside (w ∷ ws) h = absurd (omega (arith, h.1))

wrote-left : (xs ys : List ℕ) (ws : List (ℕ × ℕ)) → Inside (length xs) ws → wrote xs ws ++ ys ≡ wrote (xs ++ ys) ws
unfolding wrote
wrote-left xs ys [] h = refl
wrote-left xs ys (w ∷ ws) h =
    wrote-left (set xs w.0 w.1) ys ws (rw (length-set xs w.0 w.1) h.2)
    ∙ ap (λ (l : List ℕ). wrote l ws) (sym (set-append_left xs ys w.0 w.1 h.1))

pub wrote-first : (l : List ℕ) (n : ℕ) (ws : List (ℕ × ℕ)) → Inside (length (take n l)) ws → wrote (take n l) ws ++ drop n l ≡ wrote l ws
wrote-first l n ws h = wrote-left (take n l) (drop n l) ws h ∙ ap (λ (x : List ℕ). wrote x ws) (take-append-drop n l)

-- ---- writes past the end

past_the_end : (l : List ℕ) (p : ℕ → ℕ) (bs : List ℕ) → ((j : ℕ) → length l ≤ p j) → wrote l (writes p bs) ≡ l
unfolding wrote writes
past_the_end l p [] h = refl
past_the_end l p (b ∷ bs) h = ap (λ (x : List ℕ). wrote x (writes (λ j. p (suc j)) bs)) (set_out l (p 0) b (h 0)) ∙ past_the_end l (λ j. p (suc j)) bs (λ j. h (suc j))

-- as many as there are
cut-write : (l bs : List ℕ) (p n : ℕ) → length l ≤ p + length (take n bs) → wrote l (writes (straight p) (take n bs)) ≡ wrote l (writes (straight p) bs)
cut-write l bs p n h =
    sym
    (ap (λ (x : List ℕ). wrote l (writes (straight p) x)) (sym (take-append-drop n bs))
    ∙ ap (wrote l) (writes-append (straight p) (take n bs) (drop n bs))
    ∙ wrote-append l (writes (straight p) (take n bs)) (writes (λ j. p + (length (take n bs) + j)) (drop n bs))
    ∙ past_the_end (wrote l (writes (straight p) (take n bs))) (λ j. p + (length (take n bs) + j)) (drop n bs) (λ j. omega (arith, length-wrote l (writes (straight p) (take n bs)))))

bytes-there : (b : List ℕ) (n : ℕ) → 4 + n ≤ length b → bytes b (straight 4) n ≡ take n (drop 4 b)
bytes-there b n h =
    bytes_at-same b (straight 4) (λ j. 0 + (4 + j)) n (λ j lt. omega arith)
    ∙ bytes-part b (straight 0) (length b) 4 n h
    ∙ ap (λ (x : List ℕ). take n (drop 4 x)) (bytes-all b)

module _ (l b : List ℕ) (p : ℕ) where
  pub written_over : (n : ℕ) → 4 ≤ length b → p < length l → n ≡ min (length b - 4) (length l - p) → wrote l (writes (straight p) (bytes b (straight 4) n)) ≡ wrote l (writes (straight p) (drop 4 b))
  written_over n h k e = rw (bytes-there b n (omega arith)) (go (leb (length b - 4) (length l - p)) refl)
    where
      go : (c : Bool) → leb (length b - 4) (length l - p) ≡ c → wrote l (writes (straight p) (take n (drop 4 b))) ≡ wrote l (writes (straight p) (drop 4 b))
      go true u =
          let m : length (drop 4 b) ≤ n = rw (e, min-eq_left (leb-true (length b - 4) (length l - p) u), length-drop 4 b) (omega arith) in
          ap (λ (x : List ℕ). wrote l (writes (straight p) x)) (take_all n (drop 4 b) m)
      go false u =
          let le : length l - p ≤ length b - 4 = omega (arith, leb-false (length b - 4) (length l - p) u) in
          let m : n ≡ length l - p = e ∙ min-eq_right le in
          cut-write l (drop 4 b) p n (simp (length-take, length-drop) (omega arith))

  pub nothing_over : length l ≤ p → l ≡ wrote l (writes (straight p) (drop 4 b))
  nothing_over h = sym (past_the_end l (straight p) (drop 4 b) (λ j. omega arith))

-- ---- what the calls write

abbrev pub Quiet : Outcome → Type 0
Quiet o = (o.tx ≡ []) × (o.rx ≡ []) × (o.buffer ≡ [])

check_quiet : (b : Bool) (n : ℕ) (e : End) (o : Outcome) → Quiet o → Quiet (check b n e o)
check_quiet true n e o h = h
check_quiet false n e o h = (refl, refl, refl)

module _ (e : End) where
  pub room_quiet : (n s : ℕ) → Quiet (room_of e n s)
  unfolding room_of
  room_quiet n s = check_quiet (whole e e.tx n) 6 e _ (check_quiet (starts Reserved e.tx.block_count e.sent s) 25 e _ (refl, refl, refl))

  pub view_quiet : (n s : ℕ) → Quiet (view_of e n s)
  unfolding view_of
  view_quiet n s = check_quiet (whole e e.rx n) 6 e _ (check_quiet (starts_data e.rx.block_count e.rx.block_size e.held s) 25 e _ (refl, refl, refl))

  -- a call that is not lent a slice writes nothing to it
  pub not_received : (c : Call) → (lent c).rx ≡ [] → (lent c).buffer ≡ [] → ((step e c).rx ≡ []) × ((step e c).buffer ≡ [])
  not_received c h k =
      let w = writes_stay_inside e c in
      (none_inside _ (rw h at w.rx), none_inside _ (rw k at w.buffer))

  pub not_sent : (c : Call) → (lent c).tx ≡ [] → (step e c).tx ≡ []
  not_sent c h = none_inside _ (rw h at (writes_stay_inside e c).tx)

  pub start-writes : (tx : List ℕ) → ((start_of e (length tx)).rx ≡ []) × ((start_of e (length tx)).buffer ≡ [])
  unfolding step rule read_from lent
  start-writes tx = not_received (start tx) refl refl

  pub push-writes : (tx b : List ℕ) → ((answer (push_rule e (length tx) b) tx).rx ≡ []) × ((answer (push_rule e (length tx) b) tx).buffer ≡ [])
  unfolding step rule read_from lent
  push-writes tx b = not_received (push tx b) refl refl

  pub register-writes : (tx b : List ℕ) → ((answer (register_rule e (length tx) b) tx).rx ≡ []) × ((answer (register_rule e (length tx) b) tx).buffer ≡ [])
  unfolding step rule read_from lent
  register-writes tx b = not_received (register tx b) refl refl

  pub send-writes : (tx : List ℕ) (s a k : ℕ) → ((answer (send_rule e (length tx) s a k) tx).rx ≡ []) × ((answer (send_rule e (length tx) s a k) tx).buffer ≡ [])
  unfolding step rule read_from lent
  send-writes tx s a k = not_received (send tx s a k) refl refl

  pub done-writes : (tx : List ℕ) (s : ℕ) → ((answer (done_rule e (length tx) s) tx).rx ≡ []) × ((answer (done_rule e (length tx) s) tx).buffer ≡ [])
  unfolding step rule read_from lent
  done-writes tx s = not_received (done tx s) refl refl

  pub pull-writes : (rx buffer : List ℕ) → (step e (pull rx buffer)).tx ≡ []
  unfolding lent
  pull-writes rx buffer = not_sent (pull rx buffer) refl

  -- a pull into the first bytes of the buffer
  pub pulled-bytes : (rx buffer : List ℕ) (n m : ℕ) → m ≡ min n (length buffer) → (rx' part : List ℕ) →
      rx' ≡ wrote rx (answer (pull_rule e (length rx) (length (take m buffer))) rx).rx → part ≡ wrote (take m buffer) (answer (pull_rule e (length rx) (length (take m buffer))) rx).buffer →
      (rx' ≡ wrote rx (step e (pull rx (take n buffer))).rx) × (part ++ drop m buffer ≡ wrote buffer (step e (pull rx (take n buffer))).buffer)
  unfolding step rule read_from lent
  pulled-bytes rx buffer n m h rx' part k l =
      rw (← (first_least buffer n m h))
      (k, ap (λ (x : List ℕ). x ++ drop m buffer) l ∙ wrote-first buffer m _ (writes_stay_inside e (pull rx (take m buffer))).buffer)

-- ---- the lent bytes after a call of kind k, whose outcome o is that of its rule, x

module _ (k : CallKind) {x o : Outcome} (h : x ≡ o) where
  pub quiet_as : (tx rx buffer : List ℕ) → Quiet x → Wrote k o tx rx buffer tx rx buffer
  unfolding wrote
  quiet_as tx rx buffer q = rw (← h) (record { transmit = (λ _. rw q.0); as_many = refl; receive = rw q.1; buffered = rw q.2 })

  pub sent_as : (tx rx buffer tx' : List ℕ) → tx' ≡ wrote tx x.tx → (x.rx ≡ []) × (x.buffer ≡ []) → Wrote k o tx rx buffer tx' rx buffer
  unfolding wrote
  sent_as tx rx buffer tx' p q = rw (← h) (record { transmit = (λ _. p); as_many = ap length p ∙ length-wrote tx x.tx; receive = rw q.0; buffered = rw q.1 })

  pub pulled_in : (tx rx buffer rx' buffer' : List ℕ) → x.tx ≡ [] → rx' ≡ wrote rx x.rx → buffer' ≡ wrote buffer x.buffer → Wrote k o tx rx buffer tx rx' buffer'
  unfolding wrote
  pulled_in tx rx buffer rx' buffer' q p r = rw (← h) (record { transmit = (λ _. rw q); as_many = refl; receive = p; buffered = r })

  pub room_as : (tx rx buffer tx' : List ℕ) → k ≡ Room → length tx' ≡ length tx → Quiet x → Wrote k o tx rx buffer tx' rx buffer
  unfolding wrote
  room_as tx rx buffer tx' z l q = rw (← h) (record { transmit = (λ n. absurd (n z)); as_many = l; receive = rw q.1; buffered = rw q.2 })

-- every call of a script writes inside what it is lent

module _ (e : End) (tx rx : List ℕ) where
  abbrev Lies : Call → Type 0
  Lies c = Inside (length tx) (step e c).tx × Inside (length rx) (step e c).rx

  leaf : (c : Call) → length (lent c).tx ≤ length tx → length (lent c).rx ≤ length rx → Lies c
  leaf c h k = let w = writes_stay_inside e c in (within_wider 0 (length (lent c).tx) 0 (length tx) (step e c).tx (omega arith) h w.tx, within_wider 0 (length (lent c).rx) 0 (length rx) (step e c).rx (omega arith) k w.rx)

  within : (k : CallKind) (b buffer : List ℕ) → Lies (call_of k b tx rx buffer)
  unfolding lent
  within Arrival b buffer = leaf (arrival rx b) (omega arith) (omega arith)
  within Register b buffer = leaf (register tx b) (omega arith) (omega arith)
  within Reserve b buffer = leaf (reserve (number_at 4 b 0)) (omega arith) (omega arith)
  within Send b buffer = leaf (send tx (number_at 4 b 0) (number_at 4 b 4) (number_at 4 b 8)) (omega arith) (omega arith)
  within Drop b buffer = leaf (dropCall (number_at 4 b 0)) (omega arith) (omega arith)
  within Done b buffer = leaf (done tx (number_at 4 b 0)) (omega arith) (omega arith)
  within Push b buffer = leaf (push tx b) (omega arith) (omega arith)
  within Start b buffer = leaf (start tx) (omega arith) (omega arith)
  within Pull b buffer = leaf (pull rx (take (number_at 2 b 0) buffer)) (omega arith) (omega arith)
  within Room b buffer = leaf (room tx (number_at 4 b 0)) (omega arith) (omega arith)
  within View b buffer = leaf (view rx (number_at 4 b 0)) (omega arith) (omega arith)
  within RoomQuestion b buffer = leaf (ask_room (number_at 4 b 0) (number_at 4 b 4)) (omega arith) (omega arith)
  within ViewQuestion b buffer = leaf (ask_view (number_at 4 b 0) (number_at 4 b 4)) (omega arith) (omega arith)

-- ---- the memory after a record that is a call, which is lent the first bytes

pub leaves_call : (e : End) (n m : ℕ) (b tx rx buffer : List ℕ) (k : CallKind) (i j : ℕ) → i ≡ min n (length tx) → j ≡ min m (length rx) →
    (tx' rx' buffer' : List ℕ) → length (tx' ++ drop i tx) ≡ length tx → Wrote k (call_outcome e k b (take i tx) (take j rx) buffer) (take i tx) (take j rx) buffer tx' rx' buffer' →
    Wrote k (call_outcome e k b (take n tx) (take m rx) buffer) tx rx buffer (tx' ++ drop i tx) (rx' ++ drop j rx) buffer'
leaves_call e n m b tx rx buffer k i j p q tx' rx' buffer' l h =
    let inside = within e (take i tx) (take j rx) k b buffer in
    rw (← (first_least tx n i p), ← (first_least rx m j q))
    (record {
      transmit = (λ z. ap (λ (x : List ℕ). x ++ drop i tx) (h.transmit z) ∙ wrote-first tx i _ inside.0);
      as_many = l;
      receive = ap (λ (x : List ℕ). x ++ drop j rx) h.receive ∙ wrote-first rx j _ inside.1;
      buffered = h.buffered;
    })
