-- What holds of every unit and every call, and of what a list of calls leaves.
use Prim.Native.Nat.{ℕ, zero, suc, ◌+◌}
use mathlib.Core.Bool.{Bool, true, false}
use mathlib.Core.Path.{◌≡◌, refl, ap, ◌∙◌}
use mathlib.Core.Logic.{◌≢◌}
use mathlib.Core.List.{List, [], ◌∷◌}
use native.Mathlib.Omega.{arith}
use lib.Dec.{leb, eqb}
use lib.ListN.{length}
use borrow.Author.Tests.{eq-eqb, ne_eqb}
use Rattle.wire.specs.Choice.{pick, passed}
use Rattle.wire.specs.Bytes.{Inside}
use Rattle.wire.specs.Reads.{answer}
use Rattle.icmsg.specs.Ring.{data_length, read_index_at, write_index_at, data_at, index_at, in_rule, is_sound, used, start_content}
use Rattle.icmsg.specs.Rules.{Answer, refused, accepted, dropped, answer_number, index_after, Outcome, refusal, dropping, push_number, pushed, zero_indexes, start_rule, push_rule, pull_rule, receive_rule}
use Rattle.icmsg.specs.Laws.{Sound, Plain, InRing, unless_short}
use Rattle.wire.proofs.Positions.{within_wider}
use Rattle.icmsg.specs.declared.Ring.{Ring}
use Rattle.icmsg.proofs.Checks.{sound_says, sound_test, sound_at, rule_of}
use Rattle.icmsg.proofs.Pulls.{receive_6, receive_pulls}
use Rattle.icmsg.proofs.Indexes.{refusals as ring_refusals, indexes_in_rule}
use Rattle.icmsg.proofs.WritesInside.{writes_inside as ring_writes}
use Rattle.unit.specs.Opening.{Opened, no_region, open_number, fresh, fresh_of, closed_with, opening}
use Rattle.unit.specs.Rules.{transmit_ring, receive_ring, lent, start_of, push_of, receive_of}
use Rattle.unit.specs.Calls.{Call, start, push, receive, step, next, left}
use Rattle.unit.specs.Laws.{Refusals, is_open, OpenExactly, Stands, OpenStands, ClosedSix, WritesInside}
use Rattle.unit.specs.declared.Opening.{Opening}
use Rattle.unit.specs.declared.Region.{Region}
use Rattle.unit.specs.declared.Unit.{Unit}
use Rattle.unit.proofs.OpenedUnits.{ring_sound, Opens, opens_says}

-- ---- what holds of a ring's outcome, and of a refusal, holds of a call

-- by the slice's length
by_lent : (P : Outcome → Type 0) (n : ℕ) (g : Region) (o : Outcome) → P o → P (refusal 6) → P (lent n g o)
by_lent P n g o h k = go (eqb n g.length)
  where
    go : (x : Bool) → P (pick x o (refusal 6))
    go true = h
    go false = k

-- by the buffer's length: of a receive all that holds of the pull
by_receive : (P : Outcome → Type 0) (n : ℕ) (g : Ring) (r b : ℕ) (s : List ℕ) → P (answer (pull_rule n g r b) s) → P (refusal 26) → P (answer (receive_rule n g r b) s)
by_receive P n g r b s h k = rw (receive_pulls n g r b s) (go (answer (pull_rule n g r b) s) h)
  where
    fits : (x : Bool) (o : Outcome) → P o → P (pick x o (refusal 26))
    fits true o h = h
    fits false o h = k

    by_answer : (o : Outcome) (a : Answer) → P o → P (unless_short b o a)
    by_answer o (refused n) h = h
    by_answer o (accepted m i) h = fits (leb m b) o h
    by_answer o (dropped n i) h = h

    go : (o : Outcome) → P o → P (unless_short b o o.answer)
    go o h = by_answer o o.answer h

-- ---- refusals

receive_plain : (u : Unit) (s : List ℕ) (b : ℕ) → answer_number (receive_of u s b).answer ≢ 9 → Plain (receive_of u s b)
unfolding receive_of
receive_plain u s b =
    by_lent (λ o. answer_number o.answer ≢ 9 → Plain o) (length s) u.rx (answer (receive_rule (length s) (receive_ring u) u.read b) s)
    (by_receive (λ o. answer_number o.answer ≢ 9 → Plain o) (length s) (receive_ring u) u.read b s (ring_refusals.pull (length s) (receive_ring u) u.read b s) (λ h. (omega arith, refl)))
    (λ h. (omega arith, refl))

receive-nine : (u : Unit) (s : List ℕ) (b : ℕ) → answer_number (receive_of u s b).answer ≡ 9 →
    let w : ℕ = index_at s (write_index_at (receive_ring u)) in receive_of u s b ≡ dropping (receive_ring u) (used (data_length (receive_ring u)) u.read w) w
unfolding receive_of
receive-nine u s b =
    let w : ℕ = index_at s (write_index_at (receive_ring u)) in
    let d : Outcome = dropping (receive_ring u) (used (data_length (receive_ring u)) u.read w) w in
    by_lent (λ o. answer_number o.answer ≡ 9 → o ≡ d) (length s) u.rx (answer (receive_rule (length s) (receive_ring u) u.read b) s)
    (by_receive (λ o. answer_number o.answer ≡ 9 → o ≡ d) (length s) (receive_ring u) u.read b s (ring_refusals.pull_9 (length s) (receive_ring u) u.read b s) (λ h. absurd (omega arith)))
    (λ h. absurd (omega arith))

stays : (u : Unit) (c : Call) (n : ℕ) → (step u c).answer ≡ refused n → next u c ≡ u
stays u (start tx) n h = rw h
stays u (push tx c) n h = rw h
stays u (receive rx b) n h = rw h

pub refusals : Refusals
unfolding start_of push_of
refusals =
    record {
      start_plain = λ u tx. by_lent Plain (length tx) u.tx (start_rule (length tx) (transmit_ring u)) (ring_refusals.start (length tx) (transmit_ring u)) (omega arith, refl);
      push_plain = λ u tx c. by_lent Plain (length tx) u.tx (push_rule tx (transmit_ring u) u.write c) (ring_refusals.push tx (transmit_ring u) u.write c) (omega arith, refl);
      receive_plain = λ u rx b. receive_plain u rx (length b);
      receive_9 = λ u rx b. receive-nine u rx (length b);
      stays = stays;
    }

-- ---- writes

-- start and push write to no buffer
no_buffer : (n : ℕ) (o : Outcome) → Inside 0 o.buffer → Inside 0 (passed n o refusal).buffer
no_buffer zero o h = h
no_buffer (suc n) o h = tt

start_no_buffer : (n : ℕ) (g : Ring) → Inside 0 (start_rule n g).buffer
unfolding start_rule
start_no_buffer n g = no_buffer (push_number n g 0 0 (length start_content)) (pushed (zero_indexes g) g 0 start_content) tt

push_no_buffer : (s : List ℕ) (g : Ring) (w : ℕ) (c : List ℕ) → Inside 0 (push_rule s g w c).buffer
unfolding push_rule
push_no_buffer s g w c = no_buffer (push_number (length s) g (index_at s (read_index_at g)) w (length c)) (pushed [] g w c) tt

pub writes_inside : WritesInside
unfolding start_of push_of receive_of
writes_inside u (start tx) =
    let w = ring_writes.start (length tx) (transmit_ring u) in
    by_lent (λ o. InRing (transmit_ring u) o.region × Inside (length tx) o.region × Inside 0 o.buffer) (length tx) u.tx (start_rule (length tx) (transmit_ring u))
    (w.0, w.1, start_no_buffer (length tx) (transmit_ring u)) (tt, tt, tt)
writes_inside u (push tx c) =
    let w = ring_writes.push tx (transmit_ring u) u.write c in
    let end : ℕ = data_at (transmit_ring u) + data_length (transmit_ring u) in
    by_lent (λ o. InRing (transmit_ring u) o.region × Inside (length tx) o.region × Inside 0 o.buffer) (length tx) u.tx (push_rule tx (transmit_ring u) u.write c)
    (within_wider (write_index_at (transmit_ring u)) end (read_index_at (transmit_ring u)) end (push_rule tx (transmit_ring u) u.write c).region (omega arith) (omega arith) w.0, w.1, push_no_buffer tx (transmit_ring u) u.write c) (tt, tt, tt)
writes_inside u (receive rx b) =
    let g : Ring = receive_ring u in
    let w = ring_writes.pull_region (length rx) g u.read (length b) rx in
    let P : Outcome → Type 0 = λ o. InRing g o.region × Inside (length rx) o.region × Inside (length b) o.buffer in
    by_lent P (length rx) u.rx (answer (receive_rule (length rx) g u.read (length b)) rx)
    (by_receive P (length rx) g u.read (length b) rx (w.0, w.1, ring_writes.pull_buffer (length rx) g u.read (length b) rx) (tt, tt, tt)) (tt, tt, tt)

-- ---- a unit stays what it is

-- the own index after an answer that is refused, or in rule
index_stays : (d i : ℕ) (a : Answer) → in_rule d i ≡ true → ((k j : ℕ) → a ≡ accepted k j → in_rule d j ≡ true) → ((k j : ℕ) → a ≡ dropped k j → in_rule d j ≡ true) → in_rule d (index_after i a) ≡ true
index_stays d i (refused n) h f g = h
index_stays d i (accepted k j) h f g = f k j refl
index_stays d i (dropped k j) h f g = g k j refl

-- an outcome moves the own index in rule
Moves : ℕ → ℕ → Outcome → Type 0
Moves d i o = in_rule d (index_after i o.answer) ≡ true

module _ (u : Unit) where
  start_moves : (n : ℕ) → in_rule (data_length (transmit_ring u)) u.write ≡ true → Moves (data_length (transmit_ring u)) u.write (start_of u n)
  unfolding start_of Moves
  start_moves n h =
      by_lent (Moves (data_length (transmit_ring u)) u.write) n u.tx (start_rule n (transmit_ring u))
      (index_stays (data_length (transmit_ring u)) u.write (start_rule n (transmit_ring u)).answer h (indexes_in_rule.start n (transmit_ring u))
      (λ k j e. absurd (rw e at (ring_refusals.start n (transmit_ring u)))))
      h

  push_moves : (s c : List ℕ) → in_rule (data_length (transmit_ring u)) u.write ≡ true → Moves (data_length (transmit_ring u)) u.write (push_of u s c)
  unfolding push_of Moves
  push_moves s c h =
      by_lent (Moves (data_length (transmit_ring u)) u.write) (length s) u.tx (push_rule s (transmit_ring u) u.write c)
      (index_stays (data_length (transmit_ring u)) u.write (push_rule s (transmit_ring u) u.write c).answer h (indexes_in_rule.push s (transmit_ring u) u.write c)
      (λ k j e. absurd (rw e at (ring_refusals.push s (transmit_ring u) u.write c))))
      h

  receive_moves : (s : List ℕ) (b : ℕ) → in_rule (data_length (receive_ring u)) u.read ≡ true → Moves (data_length (receive_ring u)) u.read (receive_of u s b)
  unfolding receive_of Moves
  receive_moves s b h =
      by_lent (Moves (data_length (receive_ring u)) u.read) (length s) u.rx (answer (receive_rule (length s) (receive_ring u) u.read b) s)
      (by_receive (Moves (data_length (receive_ring u)) u.read) (length s) (receive_ring u) u.read b s
      (index_stays (data_length (receive_ring u)) u.read (answer (pull_rule (length s) (receive_ring u) u.read b) s).answer h
      (indexes_in_rule.pull (length s) (receive_ring u) u.read b s) (indexes_in_rule.drop (length s) (receive_ring u) u.read b s))
      h)
      h

-- the regions are those of the opening, and the own indexes are in rule
record Kept (o : Opening) (u : Unit) : Type 0 where
  alignment : u.alignment ≡ o.alignment
  tx : u.tx ≡ (fresh_of o).tx
  rx : u.rx ≡ (fresh_of o).rx
  write : in_rule (data_length (transmit_ring u)) u.write ≡ true
  read : in_rule (data_length (receive_ring u)) u.read ≡ true

kept_on : (o : Opening) (u : Unit) (c : Call) → Kept o u → Kept o (next u c)
unfolding Moves
kept_on o u (start tx) k = record { alignment = k.alignment; tx = k.tx; rx = k.rx; write = start_moves u (length tx) k.write; read = k.read }
kept_on o u (push tx c) k = record { alignment = k.alignment; tx = k.tx; rx = k.rx; write = push_moves u tx c k.write; read = k.read }
kept_on o u (receive rx b) k = record { alignment = k.alignment; tx = k.tx; rx = k.rx; write = k.write; read = receive_moves u rx (length b) k.read }

kept_left : (o : Opening) (u : Unit) (cs : List Call) → Kept o u → Kept o (left u cs)
kept_left o u [] k = k
kept_left o u (c ∷ cs) k = kept_left o (next u c) cs (kept_on o u c k)

-- ---- an accepted opening

fresh_kept : (o : Opening) → Opens o → Kept o (fresh_of o)
fresh_kept o h =
    let t = (ring_sound o.tx o.alignment h.tx).sound in
    let r = (ring_sound o.rx o.alignment h.rx).sound in
    record { alignment = refl; tx = refl; rx = refl; write = rule_of _ 0 t.below refl; read = rule_of _ 0 r.below refl }

-- a sound ring is so at any index in rule
sound_on : (n : ℕ) (g : Ring) (i : ℕ) → Sound n g 0 → in_rule (data_length g) i ≡ true → Sound n g i
sound_on n g i s h = sound_says n g i (sound_at n g 0 i (sound_test n g 0 s) h)

kept_stands : (o : Opening) (u : Unit) → Opens o → Kept o u → Stands o u
unfolding start_of
kept_stands o u h k =
    let t = ring_sound o.tx o.alignment h.tx in
    let r = ring_sound o.rx o.alignment h.rx in
    let tx-is : transmit_ring u ≡ transmit_ring (fresh_of o) = rw (k.alignment, k.tx) in
    let rx-is : receive_ring u ≡ receive_ring (fresh_of o) = rw (k.alignment, k.rx) in
    let tx-bytes : u.tx.length ≡ (fresh_of o).tx.length = rw k.tx in
    let rx-bytes : u.rx.length ≡ (fresh_of o).rx.length = rw k.rx in
    record {
      tx_ring = tx-is;
      rx_ring = rx-is;
      tx = sound_on u.tx.length (transmit_ring u) u.write (rw (tx-is, tx-bytes) t.sound) k.write;
      rx = sound_on u.rx.length (receive_ring u) u.read (rw (rx-is, rx-bytes) r.sound) k.read;
      starts = rw (eq-eqb u.tx.length u.tx.length refl, tx-is, tx-bytes) t.start;
    }

left_stands : (o : Opening) (cs : List Call) → Opens o → Stands o (left (opening o).unit cs)
left_stands o cs h = rw h.is (kept_stands o (left (fresh_of o) cs) h (kept_left o (fresh_of o) cs (fresh_kept o h)))

pub open_stands : OpenStands
open_stands o cs h = left_stands o cs (opens_says o h)

-- ---- a refused opening

abbrev nothing_open : Unit
nothing_open = fresh 0 no_region no_region

-- no ring of no alignment is sound
closed_6 : (c : Call) → step nothing_open c ≡ refusal 6
unfolding start_of push_of receive_of start_rule push_rule push_number is_sound
closed_6 (start tx) = by_lent (λ o. o ≡ refusal 6) (length tx) no_region (start_rule (length tx) (transmit_ring nothing_open)) refl refl
closed_6 (push tx c) = by_lent (λ o. o ≡ refusal 6) (length tx) no_region (push_rule tx (transmit_ring nothing_open) 0 c) refl refl
closed_6 (receive rx b) = by_lent (λ o. o ≡ refusal 6) (length rx) no_region (answer (receive_rule (length rx) (receive_ring nothing_open) 0 (length b)) rx) (receive_6 (length rx) (receive_ring nothing_open) 0 (length b) rx refl) refl

closed_left : (cs : List Call) → left nothing_open cs ≡ nothing_open
closed_left [] = refl
closed_left (c ∷ cs) = ap (λ (u : Unit). left u cs) (stays nothing_open c 6 (ap (λ (o : Outcome). o.answer) (closed_6 c))) ∙ closed_left cs

-- the opening of all numbers that pass
abbrev accepting : Opening → Opened
accepting o = record { number = 0; unit = fresh_of o }

pub closed_six : ClosedSix
unfolding opening
closed_six o cs c h = go (open_number o) h
  where
    go : (n : ℕ) → (passed n (accepting o) closed_with).number ≢ 0 → let u : Unit = (passed n (accepting o) closed_with).unit in (left u cs ≡ u) × (step (left u cs) c ≡ refusal 6)
    go zero h = absurd (h refl)
    go (suc n) h = (closed_left cs, ap (λ (u : Unit). step u c) (closed_left cs) ∙ closed_6 c)

stands_open : (o : Opening) (u : Unit) → Stands o u → is_open u ≡ true
stands_open o u s =
    let at_0 : (n : ℕ) (g : Ring) (i : ℕ) → Sound n g i → is_sound n g 0 ≡ true =
    λ n g i h. sound_at n g i 0 (sound_test n g i h) (rule_of (data_length g) 0 (omega (arith, h.below)) refl) in
    rw (at_0 u.tx.length (transmit_ring u) u.write s.tx, at_0 u.rx.length (receive_ring u) u.read s.rx)

closed_open : is_open nothing_open ≡ false
unfolding is_sound
closed_open = refl

pub open_exactly : OpenExactly
unfolding opening
open_exactly o cs = go (open_number o) refl
  where
    go : (n : ℕ) → open_number o ≡ n → is_open (left (passed n (accepting o) closed_with).unit cs) ≡ eqb (passed n (accepting o) closed_with).number 0
    go zero e =
        let h : Opens o = opens_says o (rw e refl) in
        stands_open o (left (fresh_of o) cs) (kept_stands o (left (fresh_of o) cs) h (kept_left o (fresh_of o) cs (fresh_kept o h)))
    go (suc n) e = rw (closed_left cs, ne_eqb (suc n) 0 (λ z. omega arith)) closed_open
