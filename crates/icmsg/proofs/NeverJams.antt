-- No bytes jam a ring: each pull leaves fewer unread bytes, and a broken packet none.
use Prim.Native.Nat.{ℕ, zero, suc, ◌+◌, ◌-◌, ◌*◌, ◌%◌, ◌≤◌, ◌<◌}
use mathlib.Core.Bool.{Bool, true, false, not}
use mathlib.Core.Path.{◌≡◌, refl, sym, ap, ◌∙◌}
use mathlib.Core.List.{List, []}
use native.Mathlib.Nat.{mod-lt, mod-eq_of_lt, mod-add-mod, add-zero, add_assoc}
use native.Mathlib.Omega.{arith}
use lib.Dec.{leb, eqb}
use lib.ListN.{length}
use borrow.Author.Tests.{leb-true, eqb-true, le-leb, eq-eqb}
use Rattle.wire.specs.Choice.{pick}
use Rattle.wire.specs.Bytes.{little_endian, from_little_endian, straight, wrote}
use Rattle.wire.specs.Reads.{answer}
use Rattle.wire.proofs.Positions.{length-wrote, bytes_kept, number-written}
use Rattle.icmsg.specs.Ring.{read_index_at, write_index_at, index_at, in_rule, is_sound, used, packet_length, behind}
use Rattle.icmsg.specs.Rules.{index_after, Outcome, refusal, fit_number, push_number, pushed, push_rule, read_to, found, nothing, broken, pull_found, pull_rule}
use Rattle.icmsg.specs.Laws.{after, NothingUnread, pulled, NeverJams}
use Rattle.icmsg.specs.declared.Ring.{Ring}
use Rattle.icmsg.proofs.Checks.{in_rule_says, sound_tests, sound_at, sound_says, used-straight}
use Rattle.icmsg.proofs.Pulls.{partner, length_at, look_flat, take_flat, past_6}
use Rattle.icmsg.proofs.Indexes.{pull-dropped, behind-in_rule, used-back, used_of}
use Rattle.icmsg.proofs.RoundTrip.{packet_low, push_and_pull}

-- ---- unread bytes: from the own index r to the partner's index w

pub used_low : (d r w : ℕ) → w < d → used d r w < d
unfolding used
used_low d r w k = mod-lt (w + d - r) (omega arith)

-- m bytes fewer, if there are as many
pub used_less : (d r w m : ℕ) → r < d → w < d → m ≤ used d r w → used d ((r + m) % d) w ≡ used d r w - m
used_less d r w m h k l =
    let u : ℕ = used d r w in
    let u_low : u < d = used_low d r w k in
    let e : ((r + m) % d + (u - m)) % d ≡ w =
    mod-add-mod (r + m) d (u - m) ∙ ap (λ (x : ℕ). x % d) (add_assoc r m (u - m) ∙ omega arith) ∙ used-back d r w h k in
    ap (used d ((r + m) % d)) (sym e) ∙ used_of d ((r + m) % d) (u - m) (mod-lt (r + m) (omega arith)) (omega arith)

-- behind a packet that is not longer than what is unread
behind_fewer : (d r w k : ℕ) → r < d → w < d → packet_length k ≤ used d r w → used d (behind d r k) w ≤ used d r w - 4
unfolding behind
behind_fewer d r w k h l f = omega (arith, used_less d r w (packet_length k) h l f, packet_low k)

-- none from an index to itself, and only there
pub used-none : (d r : ℕ) → r < d → used d r r ≡ 0
used-none d r h = sym (used-straight d r r (omega arith) h) ∙ omega arith

pub none-used : (d r w : ℕ) → r < d → w < d → used d r w ≤ 0 → w ≡ r
none-used d r w h k l =
    let z : used d r w ≡ 0 = omega arith in
    sym (used-back d r w h k) ∙ ap (λ (x : ℕ). (r + x) % d) z ∙ ap (λ (x : ℕ). x % d) (add-zero r) ∙ mod-eq_of_lt h

-- ---- the bytes after a pull that wrote its own index i out

module _ (g : Ring) (r i : ℕ) (s : List ℕ) (h : is_sound (length s) g r ≡ true) where
  -- the partner's index stays
  pub partner-stays : partner g (wrote s (read_to g i)) ≡ partner g s
  unfolding read_to index_at little_endian
  partner-stays =
      let o = sound_says (length s) g r h in
      ap from_little_endian (bytes_kept s (straight (read_index_at g)) (straight (write_index_at g)) (little_endian 4 i) 4 (λ a b lt few e. omega (arith, o.header, e)))

  -- the own index is there to be read
  pub index-written : i < 4294967296 → index_at (wrote s (read_to g i)) (read_index_at g) ≡ i
  unfolding read_to index_at
  index-written small =
      let o = sound_says (length s) g r h in
      number-written s (read_index_at g) 4 i (omega (arith, o.inside)) small

  -- and the ring lies there as before
  sound_stays : in_rule g.data_length i ≡ true → is_sound (length (wrote s (read_to g i))) g i ≡ true
  sound_stays k = rw (length-wrote s (read_to g i)) (sound_at (length s) g r i h k)

-- ---- one pull, where the partner's index is in rule

-- of the index r' and the bytes s' that it leaves
record Left (g : Ring) (r : ℕ) (s : List ℕ) (r' : ℕ) (s' : List ℕ) : Type 0 where
  sound : is_sound (length s') g r' ≡ true
  same : partner g s' ≡ partner g s
  fewer : used g.data_length r' (partner g s) ≤ used g.data_length r (partner g s) - 4

-- with the index i written out
left_at : (g : Ring) (r i : ℕ) (s : List ℕ) → is_sound (length s) g r ≡ true → in_rule g.data_length i ≡ true →
    used g.data_length i (partner g s) ≤ used g.data_length r (partner g s) - 4 → Left g r s i (wrote s (read_to g i))
left_at g r i s h k l = record { sound = sound_stays g r i s h k; same = partner-stays g r i s h; fewer = l }

module _ (g : Ring) (r b : ℕ) (s : List ℕ) (h : is_sound (length s) g r ≡ true) (k : in_rule g.data_length (partner g s) ≡ true) where
  -- x: the indexes are equal; y: the packet is not longer than what is unread
  left_by : (x y : Bool) → eqb (partner g s) r ≡ x → leb (packet_length (length_at g r s)) (used g.data_length r (partner g s)) ≡ y →
      let z : Outcome = answer (pull_found g r b (pick (not x) (pick y (found (length_at g r s)) (broken (used g.data_length r (partner g s)) (partner g s))) (nothing 8))) s in
      Left g r s (index_after r z.answer) (after s z)
  unfolding wrote
  left_by true y e f =
      let o = sound_says (length s) g r h in
      let q : partner g s ≡ r = eqb-true (partner g s) r e in
      record { sound = h; same = refl; fewer = rw q (omega (arith, used-none g.data_length r o.below)) }
  left_by false true e f =
      let o = sound_says (length s) g r h in
      let d : ℕ = g.data_length in
      let n : ℕ = length_at g r s in
      let l : packet_length n ≤ used d r (partner g s) = leb-true (packet_length n) (used d r (partner g s)) f in
      let w_low : partner g s < d = (in_rule_says d (partner g s) k).0 in
      rw (take_flat g r b s n) (left_at g r (behind d r n) s h (behind-in_rule (length s) g r n o) (behind_fewer d r (partner g s) n o.below w_low l))
  left_by false false e f =
      let w_low : partner g s < g.data_length = (in_rule_says g.data_length (partner g s) k).0 in
      left_at g r (partner g s) s h k (omega (arith, used-none g.data_length (partner g s) w_low))

  pull_leaves : let o : Outcome = answer (pull_rule (length s) g r b) s in Left g r s (index_after r o.answer) (after s o)
  pull_leaves = rw (past_6 (length s) g r b s h, look_flat g r s, k) (left_by (eqb (partner g s) r) (leb (packet_length (length_at g r s)) (used g.data_length r (partner g s))) refl refl)

-- ---- THE LAW

empties : (n : ℕ) (g : Ring) (b r : ℕ) (s : List ℕ) → used g.data_length r (partner g s) ≤ 4 * n → is_sound (length s) g r ≡ true → in_rule g.data_length (partner g s) ≡ true →
    let p : ℕ × List ℕ = pulled n g b r s in NothingUnread p.1 g p.0
unfolding pulled
empties zero g b r s l h k = (h, none-used g.data_length r (partner g s) (sound_says (length s) g r h).below (in_rule_says g.data_length (partner g s) k).0 (omega arith))
empties (suc n) g b r s l h k =
    let p = pull_leaves g r b s h k in
    let o : Outcome = answer (pull_rule (length s) g r b) s in
    let r' : ℕ = index_after r o.answer in
    empties n g b r' (after s o) (rw p.same (omega (arith, l, p.fewer))) p.sound (rw p.same k)

waiting : (g : Ring) (r b : ℕ) (s : List ℕ) → NothingUnread s g r → answer (pull_rule (length s) g r b) s ≡ refusal 8
waiting g r b s h =
    rw (past_6 (length s) g r b s h.0, look_flat g r s, h.1, (sound_tests (length s) g r h.0).rule, eq-eqb r r refl)

-- a push at an index where nothing is unread, with both indexes there
fitting : (g : Ring) (r : ℕ) (s c : List ℕ) → NothingUnread s g r → index_at s (read_index_at g) ≡ r → length c ≤ 65535 → packet_length (length c) ≤ g.data_length - 1 →
    push_rule s g r c ≡ pushed [] g r c
unfolding push_rule push_number fit_number
fitting g r s c h e short l =
    let o = sound_says (length s) g r h.0 in
    let n : used g.data_length r r ≡ 0 = used-none g.data_length r o.below in
    rw (e, h.0, le-leb (length c) 65535 short, (sound_tests (length s) g r h.0).rule, n, le-leb (packet_length (length c) + 0) (g.data_length - 1) (omega arith))

pub never_jams : NeverJams
never_jams =
    record {
      emptied = λ n g b r s l h k. empties n g b r s (omega (arith, used_low g.data_length r (partner g s) (in_rule_says g.data_length (partner g s) k).0)) h k;
      nine = λ g r b s small h.
          let p = pull-dropped (length s) g r b s h in
          let w : ℕ = partner g s in
          let l : w < 4294967296 = omega (arith, (in_rule_says g.data_length w p.rule).0) in
          rw p.is ((sound_stays g r w s p.test p.rule, partner-stays g r w s p.test), index-written g r w s p.test l);
      waits = waiting;
      fits = fitting;
      goes_on = λ g r b s c k i small h p. push_and_pull s g r c k i b small p;
    }
