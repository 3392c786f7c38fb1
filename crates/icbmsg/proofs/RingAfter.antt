-- What a call pushes is the last of the unread packets.
use Prim.Native.Nat.{ℕ, ◌+◌, ◌*◌}
use mathlib.Core.Bool.{Bool, true, false, not, true≢false}
use mathlib.Core.Path.{◌≡◌, refl, sym, ap, ◌∙◌}
use mathlib.Core.List.{List, [], ◌∷◌, ◌++◌, append-nil}
use native.Mathlib.Omega.{arith}
use lib.Dec.{leb, eqb}
use lib.ListN.{length}
use borrow.Author.Tests.{ne_eqb}
use Rattle.wire.specs.Choice.{pick}
use Rattle.wire.specs.Bytes.{wrote}
use Rattle.wire.specs.Reads.{answer}
use Rattle.wire.proofs.Positions.{length-wrote, wrote-append}
use Rattle.icmsg.specs.Rules.{Answer, refused as ringNo, accepted as ringYes, dropped as ringDropped, Outcome as RingOutcome, push_rule as ringPush, pull_rule as ringPull}
use Rattle.icmsg.specs.Laws.{PlainAt}
use Rattle.icmsg.specs.Unread.{Holds}
use Rattle.icmsg.specs.declared.Ring.{Ring}
use Rattle.icmsg.proofs.Indexes.{refusals as ring_refusals}
use Rattle.icmsg.proofs.UnreadPackets.{unread_packets}
use Rattle.blocks.specs.Names.{Name, endless, name}
use Rattle.blocks.specs.Search.{Search, nowhere, found_at}
use Rattle.blocks.specs.Tables.{entry, starts}
use Rattle.blocks.specs.declared.Use.TheVariants.{Reserved}
use Rattle.endpoints.specs.Endpoints.{bound_at, binding_at, some_endpoint}
use Rattle.icbmsg.specs.Outcome.{Given, control, Outcome, ring_refused, without_place, check}
use Rattle.icbmsg.specs.Ends.{whole, changed, found_or}
use Rattle.icbmsg.specs.Rings.{transmit_ring, receive_ring, push_outcome, pull_outcome}
use Rattle.icbmsg.specs.Messages.{reserve_of, room_of, send_of, drop_of, view_of, done_of, room_question, view_question}
use Rattle.icbmsg.specs.Arrivals.{release_of, released_bound_of, bound_to, bound_named, decoded_rule, arrival_rule}
use Rattle.icbmsg.specs.declared.Control.{Control}
use Rattle.icbmsg.specs.declared.Control.TheVariants.{TooShort, UnknownKind, DataSent, DataReleased, BindingSent, BindingReleased}
use Rattle.icbmsg.specs.Registering.{register_of}
use Rattle.icbmsg.specs.Calls.{Call, start, push, pull, reserve, room, send, drop, arrival, view, done, register, ask_room, ask_view, rule, read_from, lent, step}
use Rattle.icbmsg.specs.Theorems.{no_part, pull_part, part_of}
use Rattle.icbmsg.specs.Pushing.{contents, PushedOrNot, nothing_to_push, not_pushed, is_pushed, pushed_by, is_start, tx_after, Puts, RingAfter}
use Rattle.icbmsg.specs.End.{End}
use Rattle.icbmsg.proofs.AllOrNothing.{push-answer, push-puts, all_or_nothing_lem}
use Rattle.icbmsg.proofs.RulesRead.{pull-answer, answer-guard}
use Rattle.icbmsg.proofs.ArrivingBytes.{with_name, bound_flat, data_flat}
use Rattle.icbmsg.proofs.BeforeRing.{ring_lies, BeforeRing, send-before, done-before, register-before}
use Rattle.icbmsg.proofs.Claims.{Claim, past}
use Rattle.icbmsg.proofs.Refusals.{refusals}

-- ---- what is put on the transmit side

-- a call that pushes nothing: no write there, and the own index as it was
record Still (e : End) (o : Outcome) : Type 0 where
  tx : o.tx ≡ []
  index : o.next.write ≡ e.write

still_puts : {e : End} {o : Outcome} → Still e o → Puts e [] o
still_puts h = record { message = []; all = h.tx; beside = tt; index = h.index }

still : {e x : End} {n p m : ℕ} {g : Given} {rs bs : List (ℕ × ℕ)} → x.write ≡ e.write → Still e (record { number = n; given = g; begin = p; size = m; tx = []; rx = rs; buffer = bs; next = x })
still q = record { tx = refl; index = q }

checked : {o : Outcome} (x : Bool) (n : ℕ) (e : End) → Still e o → Still e (check x n e o)
checked true n e h = h
checked false n e h = still refl

found : {f : ℕ → Outcome} (n : ℕ) (e : End) (q : Search) → ((s : ℕ) → Still e (f s)) → Still e (found_or n e f q)
found n e nowhere h = still refl
found n e (found_at s) h = h s

asked : {e : End} {o : Outcome} → Still e o → Still e (without_place o)
asked h = record { tx = h.tx; index = h.index }

pull_still : (e : End) (w : Bool) (ws bs : List (ℕ × ℕ)) (a : Answer) → Still e (pick w (pull_outcome e ws bs a) (ring_refused e 6))
unfolding changed
pull_still e true ws bs (ringNo n) = still refl
pull_still e true ws bs (ringYes k i) = still refl
pull_still e true ws bs (ringDropped n i) = still refl
pull_still e false ws bs a = still refl

bound_to_still : (e : End) (a b n : ℕ) (its : List ℕ) (q : Search) → Still e (bound_to e a b n its q)
unfolding changed
bound_to_still e a b n its nowhere = found 22 e (binding_at (λ x. not x.stored) e.bindings) (λ j. still refl)
bound_to_still e a b n its (found_at i) = still refl

named_still : (e : End) (a b n : ℕ) (q : Name) → Still e (with_name e (bound_named e a b n) q)
unfolding bound_named
named_still e a b n endless = still refl
named_still e a b n (name cs) = search (checked, bound_to_still)

decoded_still : (e : End) (l : Control) (r : List ℕ) → Still e (answer (decoded_rule e l) r)
unfolding release_of released_bound_of changed
decoded_still e UnknownKind r = still refl
decoded_still e TooShort r = still refl
decoded_still e (DataSent a b) r = rw (data_flat e a b r) (search (checked, still, refl) depth 7)
decoded_still e (DataReleased b) r = search (checked, still, refl)
decoded_still e (BindingSent a b) r = rw (bound_flat e a b r) (search (checked, named_still) depth 6)
decoded_still e (BindingReleased a b) r = search (checked, still, refl)

room_still : (e : End) (n s : ℕ) → Still e (room_of e n s)
unfolding room_of
room_still e n s = search (checked, still, refl)

view_still : (e : End) (n s : ℕ) → Still e (view_of e n s)
unfolding view_of
view_still e n s = search (checked, still, refl)

push_puts_it : (e : End) (tx : List ℕ) (w : Bool) (c : List ℕ) (p : RingOutcome) (a : Answer) → ringPush tx (transmit_ring e) e.write c ≡ p → p.answer ≡ a → PlainAt p a →
    let o : Outcome = pick w (push_outcome e p.region a) (ring_refused e 6) in Puts e (pick (eqb o.number 0) (c ∷ []) []) o
unfolding changed
push_puts_it e tx true c p (ringNo n) q v m = rw (ne_eqb n 0 (λ (z : n ≡ 0). omega (arith, m.0, z))) (still_puts (still refl))
push_puts_it e tx true c p (ringYes k i) q v m =
    let z = push-puts tx (transmit_ring e) e.write c k i (ap (λ (x : RingOutcome). x.answer) q ∙ v) in
    record { message = []; all = ap (λ (x : RingOutcome). x.region) (sym q) ∙ z.0; beside = tt; index = z.1 }
push_puts_it e tx true c p (ringDropped n i) q v m = absurd m
push_puts_it e tx false c p a q v m = still_puts (still refl)

pushed-puts : {e : End} {tx : List ℕ} {o o' : Outcome} → PushedOrNot e tx o o' → BeforeRing e (length tx) o → Puts e (contents o'.given) o'
unfolding changed
pushed-puts (nothing_to_push q) z = rw q (still_puts (record { tx = z.quiet q; index = z.index }))
pushed-puts (not_pushed c n q p l) z = still_puts (still refl)
pushed-puts {e} {tx} {o} (is_pushed c k i q p) z =
    let y = push-puts tx (transmit_ring e) e.write c k i p in
    rw q (record { message = o.tx; all = ap (λ ws. o.tx ++ ws) y.0; beside = z.beside; index = y.1 })

puts-after : (e : End) (c : Call) → is_start c ≡ false → Puts e (pushed_by c (step e c).number (step e c).given) (step e c)
unfolding step rule read_from lent pushed_by is_start reserve_of drop_of room_question view_question arrival_rule changed
puts-after e (start tx) n = absurd (true≢false n)
puts-after e (push tx c) n =
    let p : RingOutcome = ringPush tx (transmit_ring e) e.write c in
    rw (push-answer e c tx) (push_puts_it e tx (whole e e.tx (length tx)) c p p.answer refl refl (ring_refusals.push tx (transmit_ring e) e.write c))
puts-after e (pull rx b) n =
    let o : RingOutcome = answer (ringPull (length rx) (receive_ring e) e.read (length b)) rx in
    rw (pull-answer e (length rx) (length b) rx) (still_puts (pull_still e (whole e e.rx (length rx)) o.region o.buffer o.answer))
puts-after e (reserve k) n = still_puts (search (checked, found, still, refl))
puts-after e (room tx s) n = still_puts (room_still e (length tx) s)
puts-after e (send tx s a k) n = pushed-puts (all_or_nothing_lem e tx (send_of e (length tx) s a k)) (send-before e (length tx) s a k).holds
puts-after e (drop s) n = still_puts (search (checked, still, refl))
puts-after e (arrival rx m) n = still_puts (rw answer-guard (search (checked, decoded_still)))
puts-after e (view rx s) n = still_puts (view_still e (length rx) s)
puts-after e (done tx s) n = pushed-puts (all_or_nothing_lem e tx (done_of e (length tx) s)) (done-before e (length tx) s).holds
puts-after e (register tx m) n = pushed-puts (all_or_nothing_lem e tx (register_of e (length tx) m)) (register-before e (length tx) m).holds
puts-after e (ask_room s m) n = still_puts (asked (room_still e m s))
puts-after e (ask_view s m) n = still_puts (asked (view_still e m s))

-- ---- a control message, behind what its rule writes

-- what is written beside the ring changes nothing for a push
same-push : (s t : List ℕ) (g : Ring) (r w : ℕ) (c : List ℕ) (cs : List (List ℕ)) → length t ≡ length s → Holds g s r w cs → Holds g t r w cs → ringPush t g w c ≡ ringPush s g w c
unfolding ringPush
same-push s t g r w c cs l h k = rw (l, h.reader, k.reader)

module _ (e : End) (tx : List ℕ) (r : ℕ) (cs : List (List ℕ)) (h : Holds (transmit_ring e) tx r e.write cs) where
  -- a call that neither writes nor moves on
  as_before : (o : Outcome) → o.tx ≡ [] → o.next.write ≡ e.write → Holds (transmit_ring e) (wrote tx o.tx) r o.next.write (cs ++ [])
  unfolding wrote
  as_before o q i = rw (q, i, append-nil cs) h

  after-packet : (c : List ℕ) (ws : List (ℕ × ℕ)) (k i : ℕ) → Holds (transmit_ring e) (wrote tx ws) r e.write cs → whole e e.tx (length tx) ≡ true → (ringPush tx (transmit_ring e) e.write c).answer ≡ ringYes k i →
      Holds (transmit_ring e) (wrote tx (ws ++ (ringPush tx (transmit_ring e) e.write c).region)) r i (cs ++ (c ∷ []))
  after-packet c ws k i b w q =
      let t : List ℕ = wrote tx ws in
      let p = same-push tx t (transmit_ring e) r e.write c cs (length-wrote tx ws) h b in
      rw (wrote-append tx ws (ringPush tx (transmit_ring e) e.write c).region, ← p)
      (unread_packets.push t (transmit_ring e) r e.write c cs k i (ring_lies e (length tx) w).small b (ap (λ (x : RingOutcome). x.answer) p ∙ q))

  pushed-after : {o o' : Outcome} → PushedOrNot e tx o o' → BeforeRing e (length tx) o → Holds (transmit_ring e) (wrote tx o'.tx) r o'.next.write (cs ++ contents o'.given)
  unfolding changed
  pushed-after {o} (nothing_to_push q) z = rw q (as_before o (z.quiet q) z.index)
  pushed-after {o' = o'} (not_pushed c n q p l) z = as_before o' refl refl
  pushed-after {o} (is_pushed c k i q p) z =
      rw q (after-packet c o.tx k i (unread_packets.elsewhere tx (transmit_ring e) r e.write cs o.tx z.beside h) (z.lent c q) p)

  -- push
  push-after : (w : Bool) (c : List ℕ) (p : RingOutcome) (a : Answer) → whole e e.tx (length tx) ≡ w → ringPush tx (transmit_ring e) e.write c ≡ p → p.answer ≡ a → PlainAt p a →
      let o : Outcome = pick w (push_outcome e p.region a) (ring_refused e 6) in Holds (transmit_ring e) (wrote tx o.tx) r o.next.write (cs ++ pick (eqb o.number 0) (c ∷ []) [])
  unfolding changed wrote
  push-after true c p (ringNo n) w q v m = rw (ne_eqb n 0 (λ (z : n ≡ 0). omega (arith, m.0, z)), append-nil cs) h
  push-after true c p (ringYes k i) w q v m = rw (← q) (after-packet c [] k i h w (ap (λ (x : RingOutcome). x.answer) q ∙ v))
  push-after true c p (ringDropped n i) w q v m = absurd m
  push-after false c p a w q v m = rw (append-nil cs) h

-- no ring lies in no bytes
no_ring : {A : Type 0} {g : Ring} {r w : ℕ} {cs : List (List ℕ)} → Holds g [] r w cs → A
no_ring h = absurd (omega (arith, h.sound_write.inside, h.sound_write.below))

holds_after : (e : End) (c : Call) (r : ℕ) (cs : List (List ℕ)) → is_start c ≡ false → Holds (transmit_ring e) (lent c).tx r e.write cs →
    Holds (transmit_ring e) (tx_after e c) r (step e c).next.write (cs ++ pushed_by c (step e c).number (step e c).given)
unfolding step rule read_from lent pushed_by is_start
holds_after e (start tx) r cs n h = absurd (true≢false n)
holds_after e (push tx c) r cs n h =
    let p : RingOutcome = ringPush tx (transmit_ring e) e.write c in
    rw (push-answer e c tx) (push-after e tx r cs h (whole e e.tx (length tx)) c p p.answer refl refl refl (ring_refusals.push tx (transmit_ring e) e.write c))
holds_after e (pull rx b) r cs n h = no_ring h
holds_after e (reserve k) r cs n h = no_ring h
holds_after e (room tx s) r cs n h = let z = room_still e (length tx) s in as_before e tx r cs h (room_of e (length tx) s) z.tx z.index
holds_after e (send tx s a k) r cs n h = pushed-after e tx r cs h (all_or_nothing_lem e tx (send_of e (length tx) s a k)) (send-before e (length tx) s a k).holds
holds_after e (drop s) r cs n h = no_ring h
holds_after e (arrival rx m) r cs n h = no_ring h
holds_after e (view rx s) r cs n h = no_ring h
holds_after e (done tx s) r cs n h = pushed-after e tx r cs h (all_or_nothing_lem e tx (done_of e (length tx) s)) (done-before e (length tx) s).holds
holds_after e (register tx m) r cs n h = pushed-after e tx r cs h (all_or_nothing_lem e tx (register_of e (length tx) m)) (register-before e (length tx) m).holds
holds_after e (ask_room s m) r cs n h = no_ring h
holds_after e (ask_view s m) r cs n h = no_ring h

-- ---- send

abbrev Sends : ℕ → ℕ → Outcome → Type 0
Sends a s o = o.number ≡ 0 → o.given ≡ control 0 a s

send_says : (e : End) (n s a k : ℕ) → Claim (Sends a s) (send_of e n s a k)
unfolding send_of
send_says e n s a k =
    past e (whole e e.tx n) 6 (λ h. absurd (omega (arith, h))) λ _.
    past e (starts Reserved e.tx.block_count e.sent s) 25 (λ h. absurd (omega (arith, h))) λ _.
    past e (some_endpoint (bound_at a) e.endpoints) 15 (λ h. absurd (omega (arith, h))) λ _.
    past e (leb (k + 4) ((entry e.sent s).count * e.tx.block_size)) 23 (λ h. absurd (omega (arith, h))) λ _.
    record { holds = λ _. refl }

pushed_says : {e : End} {tx : List ℕ} {a s : ℕ} {o o' : Outcome} → PushedOrNot e tx o o' → Sends a s o → Sends a s o'
pushed_says (nothing_to_push q) z h = z h
pushed_says (not_pushed c n q r l) z h = absurd (omega (arith, l, h))
pushed_says (is_pushed c k i q r) z h = z h

sent_says : (e : End) (tx : List ℕ) (s a k : ℕ) → (step e (send tx s a k)).number ≡ 0 → pushed_by (send tx s a k) 0 (step e (send tx s a k)).given ≡ (0 ∷ a ∷ s ∷ []) ∷ []
unfolding step rule read_from pushed_by
sent_says e tx s a k h = ap contents (pushed_says (all_or_nothing_lem e tx (send_of e (length tx) s a k)) (send_says e (length tx) s a k).holds h)

-- ---- THE THEOREM

pub ring_after : RingAfter
unfolding lent is_start part_of wrote pushed_by
ring_after =
    record {
      puts = puts-after;
      holds = holds_after;
      sent = λ e tx s a k r cs h z.
          (unread_packets.listed (transmit_ring e) (tx_after e (send tx s a k)) r (step e (send tx s a k)).next.write _ (holds_after e (send tx s a k) r cs refl h)).0
          ∙ rw (sent_says e tx s a k z, (unread_packets.listed (transmit_ring e) tx r e.write cs h).0);
      not_sent = λ e tx s a k d.
          let q = refusals.plain e (send tx s a k) d (λ (p : part_of (send tx s a k) ≡ pull_part). absurd (not_pull p)) in
          let w : (step e (send tx s a k)).tx ≡ [] = ap (λ (o : Outcome). o.tx) q in
          (ap (λ (o : Outcome). o.next) q, rw w, rw w);
    }
  where
    not_pull : no_part ≡ pull_part → ⊥
    not_pull p = let z : ◌≡◌ {A = ℕ} 0 1 = cc in omega arith
