-- What a turn takes off the receive ring, and where it writes.
use Prim.Native.Nat.{ℕ, suc, ◌+◌, ◌≤◌, min}
use mathlib.Core.Bool.{true, false, true≢false}
use mathlib.Core.Path.{◌≡◌, refl, sym, ap, subst, ◌∙◌}
use mathlib.Core.List.{List, [], ◌∷◌, ◌++◌}
use native.Mathlib.Omega.{arith}
use native.Mathlib.Nat.{min-eq_right}
use lib.Dec.{eqb}
use lib.ListN.{length, take, drop as without}
use borrow.Author.Tests.{leb-true}
use Rattle.wire.specs.Bytes.{straight, writes, wrote, Inside}
use Rattle.wire.proofs.Choices.{both}
use Rattle.wire.proofs.Positions.{length-wrote, wrote-append, within-append}
use Rattle.icmsg.specs.Ring.{data_at, in_rule, behind}
use Rattle.icmsg.specs.Laws.{InRing}
use Rattle.icmsg.specs.Rules.{read_to}
use Rattle.icmsg.specs.Unread.{Holds, Small}
use Rattle.icmsg.specs.declared.Ring.{Ring}
use Rattle.icmsg.proofs.UnreadPackets.{unread_packets}
use Rattle.blocks.proofs.Tables.{every}
use Rattle.icbmsg.specs.Outcome.{Given, a_length, Outcome, ring_refused}
use Rattle.icbmsg.specs.Ends.{sound_end, is_open, whole, changed, with_read}
use Rattle.icbmsg.specs.Rings.{receive_ring, ring_of}
use Rattle.icbmsg.specs.Calls.{pull, arrival, rule, read_from, lent, step}
use Rattle.icbmsg.specs.Places.{area_of}
use Rattle.icbmsg.specs.Pushing.{is_pull}
use Rattle.icbmsg.specs.Turns.{Stop, reached, at_pull, at_arrival, Turn, turned, three, pulling, pulled_rx, handed, arriving, turn_from, turn_of}
use Rattle.icbmsg.specs.TurnLaws.{OnReceiveRing, TurnTakes}
use Rattle.icbmsg.specs.End.{End}
use Rattle.icbmsg.proofs.RulesRead.{pull-answer}
use Rattle.icbmsg.proofs.Refusals.{numbers_stay, open_stays}
use Rattle.icbmsg.proofs.ReadApart.{read_apart}
use Rattle.icbmsg.proofs.Writes.{writes_stay_inside}
use Rattle.icbmsg.proofs.Turns.{three_enough, each_turn, of_whole, every_turn, stop_kind}

-- ---- behind a packet the end is open, or closed, as it was, and its ring is the same

same_ring : (e : End) (rx : List ℕ) → receive_ring (arriving e rx).next ≡ receive_ring e
same_ring e rx =
    let p = numbers_stay e (pull rx three) in
    let a = numbers_stay (pulling e rx).next (arrival (pulled_rx e rx) (handed e rx)) in
    ap (λ (x : ℕ). ring_of x (arriving e rx).next.rx) (a.alignment ∙ p.alignment) ∙ ap (ring_of e.alignment) (a.rx ∙ p.rx)

same_whole : (e : End) (rx : List ℕ) → whole (arriving e rx).next (arriving e rx).next.rx (length (pulled_rx e rx)) ≡ whole e e.rx (length rx)
same_whole e rx =
    let p = numbers_stay e (pull rx three) in
    let a = numbers_stay (pulling e rx).next (arrival (pulled_rx e rx) (handed e rx)) in
    let o = open_stays (pulling e rx).next (arrival (pulled_rx e rx) (handed e rx)) ∙ open_stays e (pull rx three) in
    rw (o, a.rx ∙ p.rx, length-wrote rx (pulling e rx).rx) refl

-- an arrival leaves the own read index alone
read-in_rule : (e : End) → is_open e ≡ true → in_rule e.rx.data_length e.read ≡ true
unfolding is_open
read-in_rule e o = (every (sound_end e) o).1.1.1.1.0

read_stays : (e : End) (rx m : List ℕ) → is_open e ≡ true → (step e (arrival rx m)).next.read ≡ e.read
unfolding changed is_pull
read_stays e rx m o = ap (λ (x : Outcome). x.next.read) (read_apart e (arrival rx m) e.read refl o (read-in_rule e o))

-- ---- where it writes

here : (e : End) (rx : List ℕ) → OnReceiveRing e rx rx
unfolding wrote
here e rx = record { writes = []; all = refl; on_ring = tt; inside = tt }

pulled_on : (e : End) (rx : List ℕ) → OnReceiveRing e rx (pulled_rx e rx)
unfolding area_of lent
pulled_on e rx = let w = writes_stay_inside e (pull rx three) in record { writes = (pulling e rx).rx; all = refl; on_ring = w.area.1; inside = w.rx }

then_on : (e : End) (rx rx' : List ℕ) → OnReceiveRing (arriving e rx).next (pulled_rx e rx) rx' → OnReceiveRing e rx rx'
then_on e rx rx' h =
    let p = pulled_on e rx in
    let g : InRing (receive_ring e) h.writes = subst (λ (x : Ring). InRing x h.writes) (same_ring e rx) h.on_ring in
    let i : Inside (length rx) h.writes = subst (λ (n : ℕ). Inside n h.writes) (length-wrote rx (pulling e rx).rx) h.inside in
    record {
      writes = p.writes ++ h.writes;
      all = h.all ∙ ap (λ (x : List ℕ). wrote x h.writes) p.all ∙ sym (wrote-append rx p.writes h.writes);
      on_ring = within-append (receive_ring e).offset (data_at (receive_ring e) + (receive_ring e).data_length) p.writes h.writes p.on_ring g;
      inside = within-append 0 (length rx) p.writes h.writes p.inside i;
    }

writes_on : (e : End) (rx : List ℕ) (b : ℕ) → OnReceiveRing e rx (turn_of e rx b).rx
writes_on e rx b =
    every_turn (λ t. OnReceiveRing e rx t.rx) e rx b
    (λ _. each_turn {P = λ b n e rx t. OnReceiveRing e rx t.rx}
    (record {
      none_left = λ n e rx. here e rx;
      no_packet = λ b n e rx p. pulled_on e rx;
      last_packet = λ b n e rx p q. pulled_on e rx;
      goes_on = λ b n e rx p q t h. then_on e rx t.rx h;
    }) b 0 e rx)
    (here e rx)

-- ---- on a ring that holds whole packets

rx_small : (e : End) (n : ℕ) → whole e e.rx n ≡ true → Small (receive_ring e)
unfolding is_open
rx_small e n w =
    let z = every (sound_end e) (both (is_open e) (eqb n e.rx.length) w).0 in
    omega (arith, leb-true)

-- the first bytes of a content, over a buffer of three
three-bytes : (c : List ℕ) → take (min (length c) 3) (wrote three (writes (straight 0) (take 3 c))) ≡ take 3 c
unfolding wrote writes
three-bytes [] = refl
three-bytes (x ∷ []) = refl
three-bytes (x ∷ y ∷ []) = refl
three-bytes (x ∷ y ∷ z ∷ c) =
    let m : min (suc (suc (suc (length c)))) 3 ≡ 3 = min-eq_right (omega arith) in
    rw m refl

module _ (e : End) (rx : List ℕ) (w : ℕ) (h : whole e e.rx (length rx) ≡ true) where
  -- the next packet is pulled
  module _ (c : List ℕ) (cs : List (List ℕ)) (k : Holds (receive_ring e) rx e.read w (c ∷ cs)) where
    abbrev next : ℕ
    next = behind e.rx.data_length e.read (length c)

    pulled_so : pulling e rx ≡ record { number = 0; given = a_length (length c); begin = 0; size = 0; tx = []; rx = read_to (receive_ring e) next; buffer = writes (straight 0) (take 3 c); next = with_read e next }
    unfolding step rule read_from
    pulled_so = pull-answer e (length rx) 3 rx ∙ rw (h, (unread_packets.pull rx (receive_ring e) e.read w 3 c cs (rx_small e (length rx) h) k).0) refl

    pub pulled-number : (pulling e rx).number ≡ 0
    pulled-number = ap (λ (o : Outcome). o.number) pulled_so

    handed_so : handed e rx ≡ take 3 c
    handed_so = rw pulled_so (three-bytes c)

    arriving_so : arriving e rx ≡ step (pulling e rx).next (arrival (pulled_rx e rx) c)
    arriving_so = ap (λ (m : List ℕ). step (pulling e rx).next (arrival (pulled_rx e rx) m)) handed_so ∙ three_enough (pulling e rx).next (pulled_rx e rx) c

    -- and the others stay
    holds-behind : Holds (receive_ring e) (pulled_rx e rx) (arriving e rx).next.read w cs
    unfolding changed
    holds-behind =
        let o : is_open (pulling e rx).next ≡ true = open_stays e (pull rx three) ∙ (both (is_open e) (eqb (length rx) e.rx.length) h).0 in
        let r : (arriving e rx).next.read ≡ next = read_stays (pulling e rx).next (pulled_rx e rx) (handed e rx) o ∙ ap (λ (x : Outcome). x.next.read) pulled_so in
        rw (r, ap (λ (x : Outcome). x.rx) pulled_so) (unread_packets.pull rx (receive_ring e) e.read w 3 c cs (rx_small e (length rx) h) k).1

  -- there is none
  pulled_8 : Holds (receive_ring e) rx e.read w [] → pulling e rx ≡ ring_refused e 8
  unfolding step rule read_from
  pulled_8 k = pull-answer e (length rx) 3 rx ∙ rw (h, unread_packets.empty rx (receive_ring e) e.read w 3 k) refl

-- the number of a pull that stops a turn
abbrev stop_number : Stop → ℕ
stop_number reached = 0
stop_number (at_pull n g) = n
stop_number (at_arrival g) = 0

-- n packets were taken before; what the turn t makes of the packets cs on the ring
record TakesOff (e : End) (n w : ℕ) (cs : List (List ℕ)) (t : Turn) : Type 0 where
  count : ℕ
  taken : t.taken ≡ n + count
  few : count ≤ length cs
  rest : Holds (receive_ring e) t.rx t.next.read w (without count cs)
  at-end : (m : ℕ) (g : Given) → t.stop ≡ at_pull m g → (m ≡ 8) × (count ≡ length cs)

-- none, or one, of them
none_off : (n w : ℕ) (e : End) (rx : List ℕ) (cs : List (List ℕ)) → Holds (receive_ring e) rx e.read w cs → TakesOff e n w cs (turned n reached rx e)
none_off n w e rx cs k = record { count = 0; taken = omega arith; few = omega arith; rest = k; at-end = λ m g q. absurd (omega (arith, ap stop_kind q)) }

no_packet_off : (n w : ℕ) (e : End) (rx : List ℕ) (cs : List (List ℕ)) → eqb (pulling e rx).number 0 ≡ false → whole e e.rx (length rx) ≡ true → Holds (receive_ring e) rx e.read w cs →
    TakesOff e n w cs (turned n (at_pull (pulling e rx).number (pulling e rx).given) (pulled_rx e rx) (pulling e rx).next)
unfolding wrote
no_packet_off n w e rx [] p h k =
    rw (pulled_8 e rx w h k) (record { count = 0; taken = omega arith; few = omega arith; rest = k; at-end = λ m g q. (sym (ap stop_number q), refl) })
no_packet_off n w e rx (c ∷ cs) p h k = absurd (true≢false (sym (ap (λ (x : ℕ). eqb x 0) (pulled-number e rx w h c cs k)) ∙ p))

one_off : (n w : ℕ) (e : End) (rx : List ℕ) (g : Given) (cs : List (List ℕ)) → eqb (pulling e rx).number 0 ≡ true → whole e e.rx (length rx) ≡ true → Holds (receive_ring e) rx e.read w cs →
    TakesOff e n w cs (turned (suc n) (at_arrival g) (pulled_rx e rx) (arriving e rx).next)
one_off n w e rx g [] p h k = absurd (true≢false (sym p ∙ ap (λ (o : Outcome). eqb o.number 0) (pulled_8 e rx w h k)))
one_off n w e rx g (c ∷ cs) p h k =
    record { count = 1; taken = omega arith; few = omega arith; rest = holds-behind e rx w h c cs k; at-end = λ m g' q. absurd (omega (arith, ap stop_kind q)) }

-- one, and then others
more_off : (n w : ℕ) (e : End) (rx : List ℕ) (t : Turn) (cs : List (List ℕ)) → eqb (pulling e rx).number 0 ≡ true → whole e e.rx (length rx) ≡ true → Holds (receive_ring e) rx e.read w cs →
    ((ds : List (List ℕ)) → whole (arriving e rx).next (arriving e rx).next.rx (length (pulled_rx e rx)) ≡ true → Holds (receive_ring (arriving e rx).next) (pulled_rx e rx) (arriving e rx).next.read w ds →
    TakesOff (arriving e rx).next (suc n) w ds t) → TakesOff e n w cs t
more_off n w e rx t [] p h k f = absurd (true≢false (sym p ∙ ap (λ (o : Outcome). eqb o.number 0) (pulled_8 e rx w h k)))
more_off n w e rx t (c ∷ cs) p h k f =
    let g = same_ring e rx in
    let z = f cs (same_whole e rx ∙ h) (subst (λ (x : Ring). Holds x (pulled_rx e rx) (arriving e rx).next.read w cs) (sym g) (holds-behind e rx w h c cs k)) in
    record {
      count = suc z.count;
      taken = omega (arith, z.taken);
      few = omega (arith, z.few);
      rest = subst (λ (x : Ring). Holds x t.rx t.next.read w (without z.count cs)) g z.rest;
      at-end = λ m q r. let y = z.at-end m q r in (y.0, ap suc y.1);
    }

abbrev Off : ℕ → ℕ → End → List ℕ → Turn → Type 0
Off b n e rx t = (w : ℕ) (cs : List (List ℕ)) → whole e e.rx (length rx) ≡ true → Holds (receive_ring e) rx e.read w cs → TakesOff e n w cs t

takes_off : (b n : ℕ) (e : End) (rx : List ℕ) → Off b n e rx (turn_from b n e rx)
takes_off =
    each_turn {P = Off}
    (record {
      none_left = λ n e rx w cs h k. none_off n w e rx cs k;
      no_packet = λ b n e rx p w cs h k. no_packet_off n w e rx cs p h k;
      last_packet = λ b n e rx p q w cs h k. one_off n w e rx (arriving e rx).given cs p h k;
      goes_on = λ b n e rx p q t f w cs h k. more_off n w e rx t cs p h k (λ ds. f w ds);
    })

pub turn_takes : TurnTakes
turn_takes =
    record {
      writes = writes_on;
      next = λ e rx w c cs h k. (pulled-number e rx w h c cs k, handed_so e rx w h c cs k, arriving_so e rx w h c cs k);
      removes = λ e rx b w cs k. every_turn (λ t. (t.taken ≤ length cs) × Holds (receive_ring e) t.rx t.next.read w (without t.taken cs)) e rx b
          (λ h.
          let t : Turn = turn_from b 0 e rx in
          let z = takes_off b 0 e rx w cs h k in
          let q : t.taken ≡ z.count = z.taken ∙ omega arith in
          rw q (z.few, z.rest))
          (omega arith, k);
      empty = λ e rx b w cs n g h k q.
          let t : Turn = turn_from b 0 e rx in
          let z = takes_off b 0 e rx w cs h k in
          let y = z.at-end n g (ap (λ (x : Turn). x.stop) (sym (of_whole e rx b h)) ∙ q) in
          (y.0, rw (of_whole e rx b h) (z.taken ∙ omega (arith, y.1)));
    }
