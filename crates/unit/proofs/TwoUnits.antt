-- Two units with swapped regions: each way's ring holds just what was sent and not yet received.
use Prim.Native.Nat.{ℕ, suc, ◌-◌, ◌≤◌}
use mathlib.Core.Bool.{Bool, true, false, false≢true}
use mathlib.Core.Path.{◌≡◌, refl, sym, ap, subst, ◌∙◌}
use mathlib.Core.List.{List, [], ◌∷◌, ◌++◌, append_assoc}
use lib.Dec.{leb}
use lib.ListN.{length, take}
use lib.Seq.{take_all}
use borrow.Author.Tests.{eq-eqb, leb-true, le-leb, lt-leb}
use Rattle.wire.specs.Choice.{pick}
use Rattle.wire.specs.Bytes.{straight, writes, wrote}
use Rattle.wire.specs.Reads.{answer}
use Rattle.wire.proofs.Positions.{length-wrote}
use Rattle.region.specs.Layout.{plain}
use Rattle.icmsg.specs.Ring.{data_length, behind, start_content}
use Rattle.icmsg.specs.Rules.{Answer, refused, accepted, dropped, Outcome, refusal, push_rule, start_rule, read_to, pull_rule}
use Rattle.icmsg.specs.Laws.{PlainAt, Plain, unless_short}
use Rattle.icmsg.specs.Unread.{unread, Holds, Small}
use Rattle.icmsg.specs.declared.Ring.{Ring}
use Rattle.icmsg.proofs.Pulls.{receive_pulls}
use Rattle.icmsg.proofs.Indexes.{refusals as ring_refusals}
use Rattle.icmsg.proofs.UnreadPackets.{unread_packets}
use Rattle.unit.specs.Opening.{region, fresh}
use Rattle.unit.specs.Rules.{ring_of, transmit_ring, receive_ring, start_of, push_of, receive_of, with_write, with_read}
use Rattle.unit.specs.TwoUnits.{Way, Pair, swap, Call, start, push, receive, copied, said, heard, turn, run, starts, InTurn, EachOnce, started_here, started_there, GivesNext, InOrder, opened, TwoUnits}
use Rattle.unit.specs.declared.Bounds.{Bounds}
use Rattle.unit.specs.declared.Opening.{Opening}
use Rattle.unit.specs.declared.Unit.{Unit}
use Rattle.unit.proofs.OpenedUnits.{ring_sound, Opens, opens_says, swapped_opens}

-- ---- one way: u sends on the ring g in the way's bytes, v receives

-- what no call changes
record Joined (g : Ring) (u v : Unit) (w : Way) : Type 0 where
  tx_ring : transmit_ring u ≡ g
  rx_ring : receive_ring v ≡ g
  tx-bytes : length w.bytes ≡ u.tx.length
  rx-bytes : length w.bytes ≡ v.rx.length
  small : Small g
  accepts : (start_rule (length w.bytes) g).answer ≡ accepted 13 20

-- what is on its way, once u has started
record Carries (g : Ring) (u v : Unit) (w : Way) : Type 0 where
  left : List (List ℕ)
  holds : Holds g w.bytes v.read u.write left
  all : w.got ++ left ≡ w.sent

abbrev Carried : Bool → Ring → Unit → Unit → Way → Type 0
Carried true g u v w = Carries g u v w
Carried false g u v w = (v.read ≡ 0) × (w.sent ≡ []) × (w.got ≡ [])

record OneWay (started : Bool) (u v : Unit) (w : Way) : Type 0 where
  ring : Ring
  joined : Joined ring u v w
  carried : Carried started ring u v w

-- units whose rings and regions are the same are joined as before
joined_on : {g : Ring} {u v : Unit} {w : Way} → Joined g u v w → (u' v' : Unit) (w' : Way) → transmit_ring u' ≡ transmit_ring u → receive_ring v' ≡ receive_ring v → u'.tx.length ≡ u.tx.length → v'.rx.length ≡ v.rx.length →
    length w'.bytes ≡ length w.bytes → Joined g u' v' w'
joined_on {g} j u' v' w' a b c d e =
    record {
      tx_ring = a ∙ j.tx_ring;
      rx_ring = b ∙ j.rx_ring;
      tx-bytes = e ∙ j.tx-bytes ∙ sym c;
      rx-bytes = e ∙ j.rx-bytes ∙ sym d;
      small = j.small;
      accepts = ap (λ (n : ℕ). (start_rule n g).answer) e ∙ j.accepts;
    }

-- the other way's calls change the other index of each
others-receive : (x : Bool) {u v : Unit} {w : Way} (a : Answer) → OneWay x u v w → OneWay x (with_read u a) v w
others-receive true {u} {v} {w} a l = record { ring = l.ring; joined = joined_on l.joined (with_read u a) v w refl refl refl refl refl; carried = record { left = l.carried.left; holds = l.carried.holds; all = l.carried.all } }
others-receive false {u} {v} {w} a l = record { ring = l.ring; joined = joined_on l.joined (with_read u a) v w refl refl refl refl refl; carried = l.carried }

others-send : (x : Bool) {u v : Unit} {w : Way} (a : Answer) → OneWay x u v w → OneWay x u (with_write v a) w
others-send true {u} {v} {w} a l = record { ring = l.ring; joined = joined_on l.joined u (with_write v a) w refl refl refl refl refl; carried = record { left = l.carried.left; holds = l.carried.holds; all = l.carried.all } }
others-send false {u} {v} {w} a l = record { ring = l.ring; joined = joined_on l.joined u (with_write v a) w refl refl refl refl refl; carried = l.carried }

-- ---- start and push

module _ {u v : Unit} {w : Way} (l : OneWay false u v w) where
  start_is : start_of u (length w.bytes) ≡ start_rule (length w.bytes) l.ring
  unfolding start_of
  start_is = rw (eq-eqb (length w.bytes) u.tx.length l.joined.tx-bytes) (ap (start_rule (length w.bytes)) l.joined.tx_ring)

  started : let o : Outcome = start_of u (length w.bytes) in OneWay true (with_write u o.answer) v (said start_content o w)
  started =
      let o : Outcome = start_rule (length w.bytes) l.ring in
      rw (start_is, l.joined.accepts)
      (record {
        ring = l.ring;
        joined = joined_on l.joined (with_write u (accepted 13 20)) v (record { bytes = wrote w.bytes o.region; sent = w.sent ++ (start_content ∷ []); got = w.got }) refl refl refl refl (length-wrote w.bytes o.region);
        carried = record {
          left = start_content ∷ [];
          holds = rw l.carried.0 (unread_packets.start w.bytes l.ring 13 20 l.joined.small l.joined.accepts);
          all = rw (l.carried.1, l.carried.2);
        };
      })

module _ {u v : Unit} {w : Way} (l : OneWay true u v w) (c : List ℕ) where
  push-is : push_of u w.bytes c ≡ push_rule w.bytes l.ring u.write c
  unfolding push_of
  push-is = rw (eq-eqb (length w.bytes) u.tx.length l.joined.tx-bytes) (ap (λ (x : Ring). push_rule w.bytes x u.write c) l.joined.tx_ring)

  push_by : (o : Outcome) → o ≡ push_rule w.bytes l.ring u.write c → (a : Answer) → o.answer ≡ a → OneWay true (with_write u o.answer) v (said c o w)
  unfolding wrote
  push_by o p (accepted k i) e =
      let d = l.carried in
      rw e (record {
        ring = l.ring;
        joined = joined_on l.joined (with_write u (accepted k i)) v (record { bytes = wrote w.bytes o.region; sent = w.sent ++ (c ∷ []); got = w.got }) refl refl refl refl (length-wrote w.bytes o.region);
        carried = record {
          left = d.left ++ (c ∷ []);
          holds = rw p (unread_packets.push w.bytes l.ring v.read u.write c d.left k i l.joined.small d.holds (rw (← p) e));
          all = sym (append_assoc w.got d.left (c ∷ [])) ∙ ap (λ (x : List (List ℕ)). x ++ (c ∷ [])) d.all;
        };
      })
  push_by o p (refused n) e =
      let t : Plain o = rw p (ring_refusals.push w.bytes l.ring u.write c) in
      let r : (1 ≤ n) × (o ≡ refusal n) = subst (PlainAt o) e t in
      rw r.1 (record {
        ring = l.ring;
        joined = joined_on l.joined u v w refl refl refl refl refl;
        carried = record { left = l.carried.left; holds = l.carried.holds; all = l.carried.all };
      })
  push_by o p (dropped n i) e = let t : Plain o = rw p (ring_refusals.push w.bytes l.ring u.write c) in absurd (subst (PlainAt o) e t)

  pushed_on : let o : Outcome = push_of u w.bytes c in OneWay true (with_write u o.answer) v (said c o w)
  pushed_on = push_by (push_of u w.bytes c) push-is (push_of u w.bytes c).answer refl

-- ---- receive

copied-writes : (p : ℕ → ℕ) (l : List ℕ) → copied (writes p l) ≡ l
unfolding copied writes
copied-writes p [] = refl
copied-writes p (x ∷ l) = ap (λ (m : List ℕ). x ∷ m) (copied-writes (λ i. p (suc i)) l)

-- into a buffer of b bytes
module _ {u v : Unit} {w : Way} (l : OneWay true u v w) (b : ℕ) where
  abbrev g : Ring
  g = l.ring

  -- the first content c taken off
  abbrev took : List ℕ → Outcome
  took c =
      let i : ℕ = behind (data_length g) v.read (length c) in
      record { answer = accepted (length c) i; region = read_to g i; buffer = writes (straight 0) (take b c) }

  receive-is : (o : Outcome) → answer (pull_rule (length w.bytes) g v.read b) w.bytes ≡ o → receive_of v w.bytes b ≡ unless_short b o o.answer
  unfolding receive_of
  receive-is o e =
      rw (eq-eqb (length w.bytes) v.rx.length l.joined.rx-bytes, l.joined.rx_ring, receive_pulls (length w.bytes) g v.read b w.bytes, e)

  Hears : Outcome → Type 0
  Hears o = OneWay true u (with_read v o.answer) (heard o w)

  -- a refusal leaves all as it was
  refusal_hears : (n : ℕ) → Hears (refusal n)
  unfolding Hears wrote
  refusal_hears n =
      record {
        ring = g;
        joined = joined_on l.joined u v w refl refl refl refl refl;
        carried = record { left = l.carried.left; holds = l.carried.holds; all = l.carried.all };
      }

  took_hears : (c : List ℕ) (cs : List (List ℕ)) → let i : ℕ = behind (data_length g) v.read (length c) in Holds g (wrote w.bytes (read_to g i)) i u.write cs → w.got ++ (c ∷ cs) ≡ w.sent →
      (x : Bool) → leb (length c) b ≡ x → Hears (pick x (took c) (refusal 26))
  unfolding Hears
  took_hears c cs h e true f =
      rw (copied-writes, take_all b c (leb-true (length c) b f))
      (record {
        ring = g;
        joined = joined_on l.joined u _ _ refl refl refl refl (length-wrote w.bytes _);
        carried = record { left = cs; holds = h; all = append_assoc w.got (c ∷ []) cs ∙ e };
      })
  took_hears c cs h e false f = refusal_hears 26

  hears : (cs : List (List ℕ)) → Holds g w.bytes v.read u.write cs → w.got ++ cs ≡ w.sent → Hears (receive_of v w.bytes b)
  hears [] h e = rw (receive-is (refusal 8) (unread_packets.empty w.bytes g v.read u.write b h)) (refusal_hears 8)
  hears (c ∷ cs) h e =
      let p = unread_packets.pull w.bytes g v.read u.write b c cs l.joined.small h in
      rw (receive-is (took c) p.0) (took_hears c cs p.1 e (leb (length c) b) refl)

  received : let o : Outcome = receive_of v w.bytes b in OneWay true u (with_read v o.answer) (heard o w)
  unfolding Hears
  received = hears l.carried.left l.carried.holds l.carried.all

  -- and it gives the next content
  gives : (cs : List (List ℕ)) → Holds g w.bytes v.read u.write cs → GivesNext b cs (receive_of v w.bytes b)
  gives [] h = receive-is (refusal 8) (unread_packets.empty w.bytes g v.read u.write b h)
  gives (c ∷ cs) h =
      let p = unread_packets.pull w.bytes g v.read u.write b c cs l.joined.small h in
      rw (receive-is (took c) p.0) (
        λ k. rw (le-leb (length c) b k) (refl, refl, copied-writes (straight 0) (take b c) ∙ take_all b c k),
        λ k. rw (lt-leb (length c) b k),
      )

  gives-next : GivesNext b (unread (transmit_ring u) w.bytes) (receive_of v w.bytes b)
  gives-next = rw (l.joined.tx_ring, (unread_packets.listed g w.bytes v.read u.write l.carried.left l.carried.holds).0) (gives l.carried.left l.carried.holds)

in_order : (p : Pair) → OneWay true p.here p.there p.out → InOrder p
in_order p l =
    record {
      all = rw (l.joined.tx_ring, (unread_packets.listed l.ring p.out.bytes p.there.read p.here.write l.carried.left l.carried.holds).0) l.carried.all;
      next = λ b. gives-next l b;
    }

-- ---- both ways; h: the unit here has started, t: that there

record Linked (h t : Bool) (p : Pair) : Type 0 where
  forth : OneWay h p.here p.there p.out
  back : OneWay t p.there p.here p.into

turned : (h t : Bool) {p : Pair} → Linked h t p → (c : Call) → InTurn h t c → Linked (starts c h) t (turn p c)
turned false t {p} l start e = record { forth = started l.forth; back = others-send t (start_of p.here (length p.out.bytes)).answer l.back }
turned true t l start e = absurd (false≢true (sym e))
turned true t {p} l (push c) e = record { forth = pushed_on l.forth c; back = others-send t (push_of p.here p.out.bytes c).answer l.back }
turned false t l (push c) e = absurd (false≢true e)
turned h true {p} l (receive b) e = record { forth = others-receive h (receive_of p.here p.into.bytes b).answer l.forth; back = received l.back b }
turned h false l (receive b) e = absurd (false≢true e)

other_side : {h t : Bool} {p : Pair} → Linked h t p → Linked t h (swap p)
other_side l = record { forth = l.back; back = l.forth }

ran : (h t : Bool) {p : Pair} → Linked h t p → (cs : List (Bool × Call)) → EachOnce h t cs → Linked (started_here h cs) (started_there t cs) (run p cs)
ran h t l [] e = l
ran h t l ((true, c) ∷ cs) e = ran (starts c h) t (turned h t l c e.0) cs e.1
ran h t l ((false, c) ∷ cs) e = ran h (starts c t) (other_side (turned t h (other_side l) c e.0)) cs e.1

-- ---- both opened

opened_way : (t r : Bounds) (a : ℕ) (s : List ℕ) → (plain t.begin t.end a).number ≡ 0 → length s ≡ t.end - t.begin →
    OneWay false (fresh a (region t a) (region r a)) (fresh a (region r a) (region t a)) (record { bytes = s; sent = []; got = [] })
opened_way t r a s h e =
    let y = ring_sound t a h in
    record {
      ring = ring_of a (region t a);
      joined = record { tx_ring = refl; rx_ring = refl; tx-bytes = e; rx-bytes = e; small = y.small; accepts = rw e y.start };
      carried = (refl, refl, refl);
    }

linked : (o : Opening) (s s' : List ℕ) → Opens o → length s ≡ o.tx.end - o.tx.begin → length s' ≡ o.rx.end - o.rx.begin → Linked false false (opened o s s')
linked o s s' h e f =
    rw (h.is, (swapped_opens o h).is)
    (record { forth = opened_way o.tx o.rx o.alignment s h.tx e; back = opened_way o.rx o.tx o.alignment s' h.rx f })

pub two_units : TwoUnits
two_units o s s' h e f cs once =
    let l = ran false false (linked o s s' (opens_says o h) e f) cs once in
    let p : Pair = run (opened o s s') cs in
    (λ k. in_order p (rw k at l.forth), λ k. in_order (swap p) (rw k at l.back))
