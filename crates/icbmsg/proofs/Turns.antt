-- A turn is its single calls, and when it stops.
use Prim.Native.Nat.{ℕ, zero, suc, ◌+◌, ◌≤◌, ◌<◌}
use mathlib.Core.Bool.{Bool, true, false}
use mathlib.Core.Path.{◌≡◌, refl, sym, ap, subst, ◌∙◌}
use mathlib.Core.List.{List, [], ◌∷◌, ◌++◌}
use native.Mathlib.Omega.{arith}
use lib.Dec.{eqb}
use lib.ListN.{length, take}
use Rattle.wire.specs.Choice.{pick}
use Rattle.wire.specs.Bytes.{wrote}
use Rattle.wire.specs.Reads.{answer}
use Rattle.icmsg.specs.Rules.{Answer, refused as ringNo, accepted as ringYes, dropped as ringDropped, Outcome as RingOutcome, pull_rule as ringPull}
use Rattle.icbmsg.specs.Outcome.{Given, nothing, a_length, dropped, a_run, control, delivery, ring_refused}
use Rattle.icbmsg.specs.Ends.{whole}
use Rattle.icbmsg.specs.Rings.{receive_ring, pull_outcome}
use Rattle.icbmsg.specs.Arrivals.{decode, arrival_rule}
use Rattle.icbmsg.specs.Calls.{Call, pull, arrival, rule, read_from, step, left}
use Rattle.icbmsg.specs.Theorems.{Reached, called}
use Rattle.icbmsg.specs.Places.{area_of}
use Rattle.icbmsg.specs.Turns.{Stop, reached, at_pull, at_arrival, Turn, turned, three, pulling, pulled_rx, handed, arriving, served, ends_turn, turn_from, turn_of, calls_from, turn_calls}
use Rattle.icbmsg.specs.TurnLaws.{took_by, stop_by, made_of, OneByOne, Act, single, turn, left_by, singles, TurnsInLists, resumed, TurnStops, is_for_caller, for_caller, told, NothingLost, ThreeEnough}
use Rattle.icbmsg.specs.End.{End}
use Rattle.icbmsg.proofs.RulesRead.{pull-answer}
use Rattle.icbmsg.proofs.Writes.{writes_stay_inside}

-- ---- three bytes are enough

three-decode : (m : List ℕ) → decode (take 3 m) ≡ decode m
three-decode [] = refl
three-decode (k ∷ []) = refl
three-decode (k ∷ a ∷ []) = refl
three-decode (k ∷ a ∷ b ∷ m) = refl

pub three_enough : ThreeEnough
unfolding step rule read_from arrival_rule
three_enough e rx m = rw (three-decode m) refl

-- ---- one packet

-- a pull that is refused
pub pull_is_6 : (e : End) (rx : List ℕ) → whole e e.rx (length rx) ≡ false → pulling e rx ≡ ring_refused e 6
unfolding step rule read_from
pull_is_6 e rx h = pull-answer e (length rx) 3 rx ∙ rw h refl

-- an arrival writes nothing to the region
pub arrival_quiet : (e : End) (rx m : List ℕ) → (step e (arrival rx m)).rx ≡ []
unfolding area_of
arrival_quiet e rx m = (writes_stay_inside e (arrival rx m)).area.1

-- ---- how a turn goes: what holds of each way in which it ends, and is kept by each packet behind which it goes on, holds of it

pub record Ways (P : ℕ → ℕ → End → List ℕ → Turn → Type 0) : Type 0 where
  pub none_left : (n : ℕ) (e : End) (rx : List ℕ) → P 0 n e rx (turned n reached rx e)
  pub no_packet : (b n : ℕ) (e : End) (rx : List ℕ) → eqb (pulling e rx).number 0 ≡ false →
      P (suc b) n e rx (turned n (at_pull (pulling e rx).number (pulling e rx).given) (pulled_rx e rx) (pulling e rx).next)
  pub last_packet : (b n : ℕ) (e : End) (rx : List ℕ) → eqb (pulling e rx).number 0 ≡ true → ends_turn (arriving e rx).given ≡ true →
      P (suc b) n e rx (turned (suc n) (at_arrival (arriving e rx).given) (pulled_rx e rx) (arriving e rx).next)
  pub goes_on : (b n : ℕ) (e : End) (rx : List ℕ) → eqb (pulling e rx).number 0 ≡ true → ends_turn (arriving e rx).given ≡ false →
      (t : Turn) → P b (suc n) (arriving e rx).next (pulled_rx e rx) t → P (suc b) n e rx t

module _ (b n : ℕ) (e : End) (rx : List ℕ) where
  stops-at_pull : eqb (pulling e rx).number 0 ≡ false → turn_from (suc b) n e rx ≡ turned n (at_pull (pulling e rx).number (pulling e rx).given) (pulled_rx e rx) (pulling e rx).next
  unfolding turn_from served
  stops-at_pull p = rw p refl

  stops-at_arrival : eqb (pulling e rx).number 0 ≡ true → ends_turn (arriving e rx).given ≡ true → turn_from (suc b) n e rx ≡ turned (suc n) (at_arrival (arriving e rx).given) (pulled_rx e rx) (arriving e rx).next
  unfolding turn_from served
  stops-at_arrival p q = rw (p, q) refl

  goes-behind : eqb (pulling e rx).number 0 ≡ true → ends_turn (arriving e rx).given ≡ false → turn_from (suc b) n e rx ≡ turn_from b (suc n) (arriving e rx).next (pulled_rx e rx)
  unfolding turn_from served
  goes-behind p q = rw (p, q) refl

pub each_turn : {P : ℕ → ℕ → End → List ℕ → Turn → Type 0} → Ways P → (b n : ℕ) (e : End) (rx : List ℕ) → P b n e rx (turn_from b n e rx)
unfolding turn_from
each_turn w zero n e rx = w.none_left n e rx
each_turn {P} w (suc b) n e rx =
    go (eqb (pulling e rx).number 0) refl (ends_turn (arriving e rx).given) refl (each_turn w b (suc n) (arriving e rx).next (pulled_rx e rx))
  where
    go : (x : Bool) → eqb (pulling e rx).number 0 ≡ x → (y : Bool) → ends_turn (arriving e rx).given ≡ y →
        P b (suc n) (arriving e rx).next (pulled_rx e rx) (turn_from b (suc n) (arriving e rx).next (pulled_rx e rx)) → P (suc b) n e rx (turn_from (suc b) n e rx)
    go true p true q h = subst (P (suc b) n e rx) (sym (stops-at_arrival b n e rx p q)) (w.last_packet b n e rx p q)
    go true p false q h = subst (P (suc b) n e rx) (sym (goes-behind b n e rx p q)) (w.goes_on b n e rx p q (turn_from b (suc n) (arriving e rx).next (pulled_rx e rx)) h)
    go false p y q h = subst (P (suc b) n e rx) (sym (stops-at_pull b n e rx p)) (w.no_packet b n e rx p)

-- ---- one by one

-- a packet behind which the turn goes on
made_on : (n : ℕ) (e : End) (rx : List ℕ) (cs : List Call) → eqb (pulling e rx).number 0 ≡ true → ends_turn (arriving e rx).given ≡ false →
    made_of n reached rx e (pull rx three ∷ arrival (pulled_rx e rx) (handed e rx) ∷ cs) ≡ made_of (suc n) reached (pulled_rx e rx) (arriving e rx).next cs
unfolding took_by stop_by wrote
made_on n e rx cs p q =
    let m : n + took_by (pull rx three) (pulling e rx) + 0 ≡ suc n = rw p (omega arith) in
    let s : stop_by (arrival (pulled_rx e rx) (handed e rx)) (arriving e rx) ≡ reached = rw q refl in
    let r : wrote (pulled_rx e rx) (arriving e rx).rx ≡ pulled_rx e rx = rw (arrival_quiet (pulling e rx).next (pulled_rx e rx) (handed e rx)) refl in
    rw (m, s, r) refl

one_from : (b n : ℕ) (e : End) (rx : List ℕ) → turn_from b n e rx ≡ made_of n reached rx e (calls_from b e rx)
unfolding calls_from took_by stop_by wrote
one_from =
    each_turn {P = λ b n e rx t. t ≡ made_of n reached rx e (calls_from b e rx)}
    (record {
      none_left = λ n e rx. refl;
      no_packet = λ b n e rx p. rw p (rw p (ap (λ (m : ℕ). turned m (at_pull (pulling e rx).number (pulling e rx).given) (pulled_rx e rx) (pulling e rx).next) (omega arith)));
      last_packet = λ b n e rx p q. rw (p, q)
          (rw (p, q, arrival_quiet (pulling e rx).next (pulled_rx e rx) (handed e rx))
          (ap (λ (m : ℕ). turned m (at_arrival (arriving e rx).given) (pulled_rx e rx) (arriving e rx).next) (omega arith)));
      goes_on = λ b n e rx p q t h. rw (p, q) (h ∙ sym (made_on n e rx (calls_from b (arriving e rx).next (pulled_rx e rx)) p q));
    })

pub one_by_one : OneByOne
unfolding turn_of turn_calls took_by stop_by wrote
one_by_one e rx b = go (whole e e.rx (length rx)) refl
  where
    go : (w : Bool) → whole e e.rx (length rx) ≡ w → turn_of e rx b ≡ made_of 0 reached rx e (turn_calls e rx b)
    go true h = rw h (one_from b 0 e rx)
    go false h = rw h (rw (pull_is_6 e rx h) refl)

-- ---- lists with turns

-- what a list of calls makes of a turn ends where the list does
made_left : (n : ℕ) (s : Stop) (rx : List ℕ) (e : End) (cs : List Call) → (made_of n s rx e cs).next ≡ left e cs
made_left n s rx e [] = refl
made_left n s rx e (c ∷ cs) = made_left (n + took_by c (step e c)) (stop_by c (step e c)) (wrote rx (step e c).rx) (step e c).next cs

left-append : (e : End) (cs ds : List Call) → left e (cs ++ ds) ≡ left (left e cs) ds
left-append e [] ds = refl
left-append e (c ∷ cs) ds = left-append (step e c).next cs ds

left-reached : (e : End) (cs : List Call) → Reached e → Reached (left e cs)
left-reached e [] r = r
left-reached e (c ∷ cs) r = left-reached (step e c).next cs (called c r)

turn-left : (e : End) (rx : List ℕ) (b : ℕ) → left e (turn_calls e rx b) ≡ (turn_of e rx b).next
turn-left e rx b = sym (ap (λ (t : Turn). t.next) (one_by_one e rx b) ∙ made_left 0 reached rx e (turn_calls e rx b))

same_left : (e : End) (acts : List Act) → left e (singles e acts) ≡ left_by e acts
same_left e [] = refl
same_left e (single c ∷ acts) = same_left (step e c).next acts
same_left e (turn rx b ∷ acts) =
    left-append e (turn_calls e rx b) (singles (turn_of e rx b).next acts)
    ∙ ap (λ (x : End). left x (singles (turn_of e rx b).next acts)) (turn-left e rx b)
    ∙ same_left (turn_of e rx b).next acts

pub turns_in_lists : TurnsInLists
turns_in_lists = record { same_end = same_left; stays_reached = λ e acts r. subst Reached (same_left e acts) (left-reached e (singles e acts) r) }

-- ---- when it stops

-- the turn of a whole region
pub of_whole : (e : End) (rx : List ℕ) (b : ℕ) → whole e e.rx (length rx) ≡ true → turn_of e rx b ≡ turn_from b 0 e rx
unfolding turn_of
of_whole e rx b h = rw h refl

at_6 : (e : End) (rx : List ℕ) (b : ℕ) → whole e e.rx (length rx) ≡ false → turn_of e rx b ≡ turned 0 (at_pull 6 (a_length 0)) rx e
unfolding turn_of
at_6 e rx b h = rw h refl

-- what holds of a turn from 0 packets on, and of 6, holds of every turn
pub every_turn : (P : Turn → Type 0) (e : End) (rx : List ℕ) (b : ℕ) → (whole e e.rx (length rx) ≡ true → P (turn_from b 0 e rx)) → P (turned 0 (at_pull 6 (a_length 0)) rx e) → P (turn_of e rx b)
every_turn P e rx b f g = go (whole e e.rx (length rx)) refl
  where
    go : (w : Bool) → whole e e.rx (length rx) ≡ w → P (turn_of e rx b)
    go true h = rw (of_whole e rx b h) (f h)
    go false h = rw (at_6 e rx b h) g

-- how many are taken, by the stop: n before it, b more at most
abbrev Counts : ℕ → ℕ → Stop → ℕ → Type 0
Counts b n reached k = k ≡ n + b
Counts b n (at_pull m g) k = (n ≤ k) × (k < n + b)
Counts b n (at_arrival g) k = (n < k) × (k ≤ n + b) × (ends_turn g ≡ true)

counts : (b n : ℕ) (e : End) (rx : List ℕ) → let t : Turn = turn_from b n e rx in Counts b n t.stop t.taken
counts =
    each_turn {P = λ b n e rx t. Counts b n t.stop t.taken}
    (record {
      none_left = λ n e rx. omega arith;
      no_packet = λ b n e rx p. (omega arith, omega arith);
      last_packet = λ b n e rx p q. (omega arith, omega arith, q);
      goes_on = λ b n e rx p q t h. more b n t.stop t.taken h;
    })
  where
    more : (b n : ℕ) (s : Stop) (k : ℕ) → Counts b (suc n) s k → Counts (suc b) n s k
    more b n reached k h = omega arith
    more b n (at_pull m g) k h = (omega arith, omega arith)
    more b n (at_arrival g) k h = (omega arith, omega arith, h.2)

at_most_b : (b n : ℕ) (s : Stop) (k : ℕ) → Counts b n s k → k ≤ n + b
at_most_b b n reached k h = omega arith
at_most_b b n (at_pull m g) k h = omega arith
at_most_b b n (at_arrival g) k h = h.1

-- two in a row
go_on : (c b n : ℕ) (e : End) (rx : List ℕ) → turn_from (b + c) n e rx ≡ resumed c (turn_from b n e rx).stop (turn_from b n e rx)
go_on c =
    each_turn {P = λ b n e rx t. turn_from (b + c) n e rx ≡ resumed c t.stop t}
    (record {
      none_left = λ n e rx. ap (λ (m : ℕ). turn_from m n e rx) (omega arith);
      no_packet = λ b n e rx p. ap (λ (m : ℕ). turn_from m n e rx) (next b) ∙ stops-at_pull (b + c) n e rx p;
      last_packet = λ b n e rx p q. ap (λ (m : ℕ). turn_from m n e rx) (next b) ∙ stops-at_arrival (b + c) n e rx p q;
      goes_on = λ b n e rx p q t h. ap (λ (m : ℕ). turn_from m n e rx) (next b) ∙ goes-behind (b + c) n e rx p q ∙ h;
    })
  where
    next : (b : ℕ) → suc b + c ≡ suc (b + c)
    next b = omega arith

-- a number for each stop
abbrev pub stop_kind : Stop → ℕ
stop_kind reached = 0
stop_kind (at_pull n g) = 1
stop_kind (at_arrival g) = 2

pub turn_stops : TurnStops
turn_stops =
    record {
      at_6 = at_6;
      most = λ e rx b. every_turn (λ t. t.taken ≤ b) e rx b (λ _. omega (arith, at_most_b b 0 (turn_from b 0 e rx).stop (turn_from b 0 e rx).taken (counts b 0 e rx))) (omega arith);
      at_most = λ e rx b. every_turn (λ t. t.stop ≡ reached → t.taken ≡ b) e rx b
          (λ _ q. omega (arith, subst (λ s. Counts b 0 s (turn_from b 0 e rx).taken) q (counts b 0 e rx)))
          (λ q. absurd (omega (arith, ap stop_kind q)));
      on_pull = λ e rx b n g h q.
          let t : Turn = turn_from b 0 e rx in
          let z = subst (λ s. Counts b 0 s t.taken) (ap (λ (x : Turn). x.stop) (sym (of_whole e rx b h)) ∙ q) (counts b 0 e rx) in
          rw (of_whole e rx b h) (omega (arith, z.1));
      on_arrival = λ e rx b g. every_turn (λ t. t.stop ≡ at_arrival g → (1 ≤ t.taken) × (ends_turn g ≡ true)) e rx b
          (λ _ q. let z = subst (λ s. Counts b 0 s (turn_from b 0 e rx).taken) q (counts b 0 e rx) in (omega (arith, z.0), z.2))
          (λ q. absurd (omega (arith, ap stop_kind q)));
      longer = λ e rx b c h. rw (of_whole e rx (b + c) h, of_whole e rx b h) (go_on c b 0 e rx);
    }

-- ---- nothing is lost

-- what ends a turn is what is for the caller
same_test : (g : Given) → is_for_caller g ≡ ends_turn g
same_test nothing = refl
same_test (a_length k) = refl
same_test (dropped n) = refl
same_test (a_run s n) = refl
same_test (control k a b) = refl
same_test (delivery a b k) = refl

-- of a pull nothing is
pull_for_nobody : (e : End) (rx : List ℕ) → is_for_caller (pulling e rx).given ≡ false
unfolding step rule read_from
pull_for_nobody e rx =
    let o : RingOutcome = answer (ringPull (length rx) (receive_ring e) e.read 3) rx in
    rw (pull-answer e (length rx) 3 rx) (go (whole e e.rx (length rx)) o.region o.buffer o.answer)
  where
    go : (w : Bool) (ws bs : List (ℕ × ℕ)) (a : Answer) → is_for_caller (pick w (pull_outcome e ws bs a) (ring_refused e 6)).given ≡ false
    go true ws bs (ringNo n) = refl
    go true ws bs (ringYes k i) = refl
    go true ws bs (ringDropped n i) = refl
    go false ws bs a = refl

lost_from : (b n : ℕ) (e : End) (rx : List ℕ) → for_caller e (calls_from b e rx) ≡ told (turn_from b n e rx).stop
unfolding calls_from
lost_from =
    each_turn {P = λ b n e rx t. for_caller e (calls_from b e rx) ≡ told t.stop}
    (record {
      none_left = λ n e rx. refl;
      no_packet = λ b n e rx p. rw (p, pull_for_nobody e rx) refl;
      last_packet = λ b n e rx p q. rw (p, pull_for_nobody e rx, same_test (arriving e rx).given ∙ q) refl;
      goes_on = λ b n e rx p q t h. rw (p, pull_for_nobody e rx, same_test (arriving e rx).given ∙ q) h;
    })

pub nothing_lost : NothingLost
unfolding turn_of turn_calls
nothing_lost e rx b = go (whole e e.rx (length rx)) refl
  where
    go : (w : Bool) → whole e e.rx (length rx) ≡ w → for_caller e (turn_calls e rx b) ≡ told (turn_of e rx b).stop
    go true h = rw h (lost_from b 0 e rx)
    go false h = rw h (rw (pull_for_nobody e rx) refl)
