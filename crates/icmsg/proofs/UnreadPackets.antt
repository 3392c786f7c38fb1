-- The unread packets of a ring: what a start leaves, a push adds, a pull takes, and other writes leave alone.
use Prim.Native.Nat.{ℕ, zero, suc, ◌+◌, ◌-◌, ◌*◌, ◌/◌, ◌%◌, ◌≤◌, ◌<◌, min}
use mathlib.Core.Path.{◌≡◌, refl, sym, ap, subst, ◌∙◌}
use mathlib.Core.List.{List, [], ◌∷◌, ◌++◌}
use native.Mathlib.Omega.{arith}
use native.Mathlib.Nat.{mod-lt, mod-eq_of_lt, mod-add-mod, add-zero, zero-add, add_assoc}
use lib.Dec.{lit<}
use lib.ListN.{length, get_or, take}
use lib.Seq.{take-length}
use borrow.Author.Tests.{le-leb, lt-leb, eq-eqb, ne_eqb}
use Rattle.wire.specs.Choice.{passed}
use Rattle.wire.specs.Bytes.{little_endian, from_little_endian, straight, bytes, writes, wrote}
use Rattle.wire.specs.Reads.{answer}
use Rattle.wire.proofs.Positions.{Outside, length-wrote, wrote-append, number-written, byte_kept, outside_writes, bytes_kept, bytes_same, bytes_at-same, bytes-part}
use Rattle.wire.proofs.Wrapped.{wrapped_shift}
use Rattle.icmsg.specs.Ring.{data_length, read_index_at, write_index_at, data_at, from, index_at, used, packet_length, content_length, behind, start_content}
use Rattle.icmsg.specs.Rules.{Outcome, accepted, answer_number, read_to, refusal, found, nothing, pushed, push_number, push_rule, start_rule, zero_indexes, push_writes, look_rule, pull_found, pull_rule}
use Rattle.icmsg.specs.Laws.{Sound, after}
use Rattle.icmsg.specs.Unread.{says_at, packets_from, unread, packet_bytes, Lies, none, more, Holds, Small, Beside, UnreadPackets}
use Rattle.icmsg.specs.declared.Ring.{Ring}
use Rattle.icmsg.proofs.Checks.{HasSpace, in_rule_says, rule_of, sound_says, sound_test}
use Rattle.icmsg.proofs.Pulls.{partner, look_flat, past_6, take_flat}
use Rattle.icmsg.proofs.Indexes.{push-passed, push-index, pull-dropped, indexes_in_rule, used-back, used-more}
use Rattle.icmsg.proofs.RoundTrip.{packet_low, after_push, with_index, length-read, content_read, index_read, unread_byte, partner_kept, data_low, take_that_fit}
use Rattle.icmsg.proofs.NeverJams.{used_low, used_less, used-none, none-used, partner-stays, index-written}

-- ---- packets one behind the other

-- they are what the definition lists
lies-listed : {g : Ring} {s : List ℕ} {r n : ℕ} {cs : List (List ℕ)} (f : ℕ) → Lies g s r n cs → n ≤ 4 * f → packets_from f g s r n ≡ cs
unfolding packets_from
lies-listed zero none h = refl
lies-listed {g} {s} {r} (suc f) none h = rw (lt-leb (packet_length (says_at g s r)) 0 (omega (arith, packet_low (says_at g s r))))
lies-listed zero (more c p q l) h = absurd (omega (arith, packet_low (length c)))
lies-listed {g} {s} {r} (suc f) (more {n = n} {cs = cs} c p q l) h =
    let k : ℕ = packet_length (length c) in
    let rest : k + n - k ≡ n = omega arith in
    rw (p, le-leb k (k + n) (omega arith), q, rest) (ap (λ (ds : List (List ℕ)). c ∷ ds) (lies-listed {r = behind (data_length g) r (length c)} f l (omega (arith, packet_low (length c)))))

-- and their bytes are all that is used
lies-bytes : {g : Ring} {s : List ℕ} {r n : ℕ} {cs : List (List ℕ)} → Lies g s r n cs → n ≡ packet_bytes cs
unfolding packet_bytes
lies-bytes none = refl
lies-bytes (more c p q l) = ap (λ (x : ℕ). packet_length (length c) + x) (lies-bytes l)

-- more of them can follow, at the index behind
lies_on : {g : Ring} {s : List ℕ} {r n m : ℕ} {cs ds : List (List ℕ)} → r < g.data_length → Lies g s r n cs → Lies g s ((r + n) % g.data_length) m ds → Lies g s r (n + m) (cs ++ ds)
unfolding behind
lies_on {g} {s} {r} {m = m} {ds = ds} h none k = rw (zero-add m) (subst (λ (x : ℕ). Lies g s x m ds) (rw (add-zero r) (mod-eq_of_lt h)) k)
lies_on {g} {s} {r} {m = m} {ds = ds} h (more {n = n} {cs = cs} c p q l) k =
    let d : ℕ = g.data_length in
    let z : ℕ = packet_length (length c) in
    let low : (r + z) % d < d = mod-lt (r + z) (omega arith) in
    let there : (r + (z + n)) % d ≡ ((r + z) % d + n) % d = sym (mod-add-mod (r + z) d n ∙ ap (λ (x : ℕ). x % d) (add_assoc r z n)) in
    rw (add_assoc z n m) (more c p q (lies_on {m = m} {ds = ds} low l (subst (λ (x : ℕ). Lies g s x m ds) there k)))

-- bytes elsewhere do not matter
lies_kept : {g : Ring} {s s' : List ℕ} {r n : ℕ} {cs : List (List ℕ)} → ((j : ℕ) → j < n → get_or s' (from g r j) 0 ≡ get_or s (from g r j) 0) → Lies g s r n cs → Lies g s' r n cs
unfolding behind
lies_kept h none = none
lies_kept {g} {s} {s'} {r} h (more {n = n} c p q l) =
    let z : ℕ = packet_length (length c) in
    let low : 4 + length c ≤ z = packet_low (length c) in
    let says : says_at g s' r ≡ says_at g s r = ap content_length (bytes_same s' s (from g r) (from g r) 2 (λ j lt. h j (omega arith))) in
    let content = bytes_same s' s (from g (r + 4)) (from g (r + 4)) (length c)
    (λ j lt. rw (ap (λ (x : ℕ). data_at g + x % g.data_length) (add_assoc r 4 j)) (h (4 + j) (omega arith))) in
    more c (says ∙ p) (content ∙ q)
    (lies_kept (λ j lt. rw (wrapped_shift (data_at g) g.data_length r z j) (h (z + j) (omega arith))) l)

-- the first of them, and those behind it
record First (g : Ring) (s : List ℕ) (r n : ℕ) (c : List ℕ) (cs : List (List ℕ)) : Type 0 where
  says : says_at g s r ≡ length c
  content : bytes s (from g (r + 4)) (length c) ≡ c
  rest : ℕ
  is : n ≡ packet_length (length c) + rest
  on : Lies g s (behind g.data_length r (length c)) rest cs

first_of : {g : Ring} {s : List ℕ} {r n : ℕ} {c : List ℕ} {cs : List (List ℕ)} → Lies g s r n (c ∷ cs) → First g s r n c cs
first_of (more {n = n} c p q l) = record { says = p; content = q; rest = n; is = refl; on = l }

lies-none : {g : Ring} {s : List ℕ} {r n : ℕ} → Lies g s r n [] → n ≡ 0
lies-none none = refl

-- ---- a ring that holds them

pub holds-unread : {g : Ring} {s : List ℕ} {r w : ℕ} {cs : List (List ℕ)} → Holds g s r w cs → unread g s ≡ cs
unfolding unread
holds-unread {g} {s} {r} {w} h =
    rw (h.reader, h.writer)
    (lies-listed (g.data_length / 4) h.lies (omega (arith, used_low g.data_length r w h.sound_write.below, h.sound_read.data_fours)))

-- a ring lies in bytes of the same length, at any index in rule
sound_in : {n m : ℕ} {g : Ring} {i j : ℕ} → Sound n g i → n ≡ m → j < g.data_length → j % 4 ≡ 0 → Sound m g j
sound_in {g = g} o e l f = record { header = o.header; inside = subst (λ (x : ℕ). data_at g + g.data_length ≤ x) e o.inside; data_fours = o.data_fours; below = l; fours = f }

-- ---- push

push-holds : (s : List ℕ) (g : Ring) (r w : ℕ) (c : List ℕ) (cs : List (List ℕ)) (k i : ℕ) → Small g → Holds g s r w cs → (push_rule s g w c).answer ≡ accepted k i →
    Holds g (after s (push_rule s g w c)) r i (cs ++ (c ∷ []))
unfolding push_rule behind
push-holds s g r w c cs k i small o h =
    let d : ℕ = g.data_length in
    let z : ℕ = packet_length (length c) in
    let s' : List ℕ = with_index s g w c in
    let p = push-passed (length s) g (index_at s (read_index_at g)) w (length c) (pushed [] g w c) k i h in
    let e : i ≡ behind d w (length c) = push-index (length s) g (index_at s (read_index_at g)) w [] c k i h in
    let room : HasSpace d r w (length c) = rw o.reader at p.room in
    let short : z ≤ d - 1 = omega (arith, room.fits) in
    let rule = in_rule_says d i (indexes_in_rule.push s g w c k i h) in
    let many : length s ≡ length s' = sym (length-wrote _ _ ∙ length-wrote s _) in
    let new : Lies g s' w (z + 0) (c ∷ []) =
    more c (length-read s g w c p.sound short) (content_read s g w c p.sound short (length c) (omega arith) ∙ take-length c) none in
    let old : Lies g s' r (used d r w) cs = lies_kept (λ j lt. unread_byte s g w c p.sound r room j lt) o.lies in
    let both : Lies g s' r (used d r w + (z + 0)) (cs ++ (c ∷ [])) =
    lies_on o.sound_read.below old (subst (λ (x : ℕ). Lies g s' x (z + 0) (c ∷ [])) (sym (used-back d r w o.sound_read.below o.sound_write.below)) new) in
    let longer : used d r i ≡ used d r w + (z + 0) =
    ap (used d r) e ∙ used-more d r w z o.sound_read.below o.sound_write.below (omega (arith, room.fits)) ∙ omega arith in
    rw (after_push s g w c p.is)
    (record {
      sound_read = sound_in o.sound_read many o.sound_read.below o.sound_read.fours;
      sound_write = sound_in o.sound_read many rule.0 rule.1;
      reader = partner_kept s g w c p.sound ∙ o.reader;
      writer = index_read s g w c p.sound short small ∙ sym e;
      lies = rw longer both;
    })

-- ---- pull

-- the reader's own index is i from now on: what lies there is unread
read_on : {g : Ring} {s : List ℕ} {r w : ℕ} {cs : List (List ℕ)} (i : ℕ) → Small g → Sound (length s) g r → i < g.data_length → i % 4 ≡ 0 → w < g.data_length → w % 4 ≡ 0 →
    partner g s ≡ w → Lies g s i (used g.data_length i w) cs → Holds g (wrote s (read_to g i)) i w cs
unfolding read_to little_endian
read_on {g} {s} {r} {w} i small o l f m k e h =
    let t = sound_test (length s) g r o in
    let many : length s ≡ length (wrote s (read_to g i)) = sym (length-wrote s _) in
    let kept : (j : ℕ) → get_or (wrote s (read_to g i)) (from g i j) 0 ≡ get_or s (from g i j) 0 =
    λ j. byte_kept s _ (from g i j) (outside_writes (straight (read_index_at g)) (little_endian 4 i) (from g i j) (λ x few z. omega (arith, z, few, data_low g i j))) in
    record {
      sound_read = sound_in o many l f;
      sound_write = sound_in o many m k;
      reader = index-written g r i s t (omega (arith, l, small));
      writer = partner-stays g r i s t ∙ e;
      lies = lies_kept (λ j _. kept j) h;
    }

-- the first packet is found
first_found : {g : Ring} {s : List ℕ} {r w : ℕ} {c : List ℕ} {cs : List (List ℕ)} → Holds g s r w (c ∷ cs) → answer (look_rule g r) s ≡ found (length c)
first_found {g} {s} {r} {w} {c} o =
    let d : ℕ = g.data_length in
    let f = first_of o.lies in
    let apart : w ≡ r → ⊥ = λ e. omega (arith, f.is, packet_low (length c), ap (used d r) e, used-none d r o.sound_read.below) in
    rw (look_flat g r s, o.writer, f.says, rule_of d w o.sound_write.below o.sound_write.fours, ne_eqb w r apart, le-leb (packet_length (length c)) (used d r w) (omega (arith, f.is)))

pull-holds : (s : List ℕ) (g : Ring) (r w b : ℕ) (c : List ℕ) (cs : List (List ℕ)) → Small g → Holds g s r w (c ∷ cs) →
    let i : ℕ = behind g.data_length r (length c) in
    (answer (pull_rule (length s) g r b) s ≡ record { answer = accepted (length c) i; region = read_to g i; buffer = writes (straight 0) (take b c) })
    × Holds g (wrote s (read_to g i)) i w cs
unfolding behind
pull-holds s g r w b c cs small o =
    let d : ℕ = g.data_length in
    let k : ℕ = length c in
    let i : ℕ = behind d r k in
    let f = first_of o.lies in
    let copied : bytes s (from g (r + 4)) (min k b) ≡ take b c =
    bytes_at-same s (from g (r + 4)) (λ j. from g (r + 4) (0 + j)) (min k b) (λ j _. ap (from g (r + 4)) (sym (zero-add j)))
    ∙ bytes-part s (from g (r + 4)) k 0 (min k b) (omega arith) ∙ ap (take (min k b)) f.content ∙ take_that_fit c b in
    let pulled : answer (pull_rule (length s) g r b) s ≡ record { answer = accepted k i; region = read_to g i; buffer = writes (straight 0) (take b c) } =
    past_6 (length s) g r b s (sound_test (length s) g r o.sound_read)
    ∙ ap (λ x. answer (pull_found g r b x) s) (first_found o) ∙ take_flat g r b s k
    ∙ ap (λ (l : List ℕ). record { answer = accepted k i; region = read_to g i; buffer = writes (straight 0) l }) copied in
    let rule = in_rule_says d i (indexes_in_rule.pull (length s) g r b s k i (ap (λ (x : Outcome). x.answer) pulled)) in
    let fewer : used d i w ≡ f.rest =
    used_less d r w (packet_length k) o.sound_read.below o.sound_write.below (omega (arith, f.is)) ∙ omega (arith, f.is) in
    (pulled, read_on i small o.sound_read rule.0 rule.1 o.sound_write.below o.sound_write.fours o.writer (rw fewer f.on))

pull-empty : (s : List ℕ) (g : Ring) (r w b : ℕ) → Holds g s r w [] → answer (pull_rule (length s) g r b) s ≡ refusal 8
pull-empty s g r w b o =
    let d : ℕ = g.data_length in
    let same : w ≡ r = none-used d r w o.sound_read.below o.sound_write.below (omega (arith, lies-none o.lies)) in
    let looked : answer (look_rule g r) s ≡ nothing 8 = (rw (look_flat g r s, o.writer, rule_of d w o.sound_write.below o.sound_write.fours, eq-eqb w r same)) in
    past_6 (length s) g r b s (sound_test (length s) g r o.sound_read) ∙ ap (λ x. answer (pull_found g r b x) s) looked

-- the reader goes on at the writer's index
drop-holds : (s : List ℕ) (g : Ring) (r b : ℕ) → Small g → answer_number (answer (pull_rule (length s) g r b) s).answer ≡ 9 →
    Holds g (after s (answer (pull_rule (length s) g r b) s)) (partner g s) (partner g s) []
drop-holds s g r b small h =
    let d : ℕ = g.data_length in
    let p = pull-dropped (length s) g r b s h in
    let w : ℕ = partner g s in
    let rule = in_rule_says d w p.rule in
    rw p.is (read_on w small (sound_says (length s) g r p.test) rule.0 rule.1 rule.0 rule.1 refl (rw (used-none d w rule.0) none))

-- ---- writes elsewhere

beside_outside : (g : Ring) (ws : List (ℕ × ℕ)) (q : ℕ) → Beside g ws → g.offset ≤ q → q < data_at g + g.data_length → Outside q ws
beside_outside g [] q h low high = tt
beside_outside g (w ∷ ws) q h low high = (λ e. let z = h.0 (omega (arith, e)) in omega (arith, e, z), beside_outside g ws q h.1 low high)

elsewhere-holds : (s : List ℕ) (g : Ring) (r w : ℕ) (cs : List (List ℕ)) (ws : List (ℕ × ℕ)) → Beside g ws → Holds g s r w cs → Holds g (wrote s ws) r w cs
unfolding index_at
elsewhere-holds s g r w cs ws h o =
    let many : length s ≡ length (wrote s ws) = sym (length-wrote s ws) in
    let some : 0 < g.data_length = omega (arith, o.sound_read.below) in
    let index : (p : ℕ) → g.offset ≤ p → p + 4 ≤ data_at g → from_little_endian (bytes (wrote s ws) (straight p) 4) ≡ from_little_endian (bytes s (straight p) 4) =
    λ p low high. ap from_little_endian (bytes_same (wrote s ws) s (straight p) (straight p) 4 (λ j lt. byte_kept s ws (p + j) (beside_outside g ws (p + j) h (omega arith) (omega arith)))) in
    record {
      sound_read = sound_in o.sound_read many o.sound_read.below o.sound_read.fours;
      sound_write = sound_in o.sound_read many o.sound_write.below o.sound_write.fours;
      reader = index (read_index_at g) (omega arith) (omega arith) ∙ o.reader;
      writer = index (write_index_at g) (omega arith) (omega arith) ∙ o.writer;
      lies = lies_kept (λ j lt. byte_kept s ws (from g r j) (beside_outside g ws (from g r j) h (omega (arith, data_low g r j)) (omega (arith, mod-lt (r + j) some)))) o.lies;
    }

-- ---- start

-- both indexes are zero
zeroed_empty : (s : List ℕ) (g : Ring) → Sound (length s) g 0 → Holds g (wrote s (zero_indexes g)) 0 0 []
unfolding index_at little_endian
zeroed_empty s g o =
    let many : length s ≡ length (wrote s (zero_indexes g)) = sym (length-wrote s _) in
    let t : List ℕ = wrote s (writes (straight (read_index_at g)) (little_endian 4 0)) in
    let two : wrote s (zero_indexes g) ≡ wrote t (writes (straight (write_index_at g)) (little_endian 4 0)) = wrote-append s _ _ in
    record {
      sound_read = sound_in o many o.below o.fours;
      sound_write = sound_in o many o.below o.fours;
      reader =
          rw two (ap from_little_endian (bytes_kept t (straight (write_index_at g)) (straight (read_index_at g)) (little_endian 4 0) 4 (λ x y lt few e. omega (arith, o.header, e, lt)))
          ∙ number-written s (read_index_at g) 4 0 (omega (arith, o.inside)) (lit< tt));
      writer = rw two (number-written t (write_index_at g) 4 0 (omega (arith, o.inside, length-wrote s (writes (straight (read_index_at g)) (little_endian 4 0)))) (lit< tt));
      lies = rw (used-none g.data_length 0 o.below) none;
    }

-- what is written before a push does not matter to its answer
same_answer : (before before' : List (ℕ × ℕ)) (g : Ring) (w : ℕ) (c : List ℕ) (n : ℕ) → (passed n (pushed before g w c) refusal).answer ≡ (passed n (pushed before' g w c) refusal).answer
same_answer a b g w c zero = refl
same_answer a b g w c (suc n) = refl

start-holds : (s : List ℕ) (g : Ring) (k i : ℕ) → Small g → (start_rule (length s) g).answer ≡ accepted k i → Holds g (after s (start_rule (length s) g)) 0 i (start_content ∷ [])
unfolding start_rule push_rule
start-holds s g k i small h =
    let p = push-passed (length s) g 0 0 13 (pushed (zero_indexes g) g 0 start_content) k i h in
    let t : List ℕ = wrote s (zero_indexes g) in
    let o : Holds g t 0 0 [] = zeroed_empty s g p.sound in
    let n : push_number (length t) g (index_at t (read_index_at g)) 0 13 ≡ push_number (length s) g 0 0 13 = rw (o.reader, length-wrote s (zero_indexes g)) in
    let a : (push_rule t g 0 start_content).answer ≡ accepted k i =
    ap (λ (x : ℕ). (passed x (pushed [] g 0 start_content) refusal).answer) n ∙ same_answer [] (zero_indexes g) g 0 start_content (push_number (length s) g 0 0 13) ∙ h in
    let q = push-passed (length t) g (index_at t (read_index_at g)) 0 13 (pushed [] g 0 start_content) k i a in
    let e : after s (start_rule (length s) g) ≡ after t (push_rule t g 0 start_content) =
    ap (λ (x : Outcome). wrote s x.region) p.is ∙ wrote-append s (zero_indexes g) (push_writes g 0 start_content) ∙ sym (ap (λ (x : Outcome). wrote t x.region) q.is) in
    rw e (push-holds t g 0 0 start_content [] k i small o a)

-- ---- THE LAW

pub unread_packets : UnreadPackets
unread_packets =
    record {
      listed = λ g s r w cs h. (holds-unread h, lies-bytes h.lies);
      start = start-holds;
      push = push-holds;
      pull = pull-holds;
      empty = pull-empty;
      nine = drop-holds;
      elsewhere = elsewhere-holds;
    }
