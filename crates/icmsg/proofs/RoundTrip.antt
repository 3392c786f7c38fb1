-- What push puts, a pull with that index takes; and a push leaves the unread bytes alone.
use Prim.Native.Nat.{ℕ, ◌+◌, ◌-◌, ◌%◌, ◌≤◌, ◌<◌, min}
use mathlib.Core.Bool.{true}
use mathlib.Core.Path.{◌≡◌, sym, ap, ◌∙◌}
use mathlib.Core.List.{List, []}
use native.Mathlib.Nat.{mod-lt, zero-add, add_assoc, min_comm}
use native.Mathlib.Omega.{arith}
use lib.ListN.{length, get_or, take, drop, length-append, length-replicate}
use lib.Seq.{take-append-le}
use borrow.Author.Tests.{le-leb, ne_eqb}
use Rattle.wire.specs.Choice.{passed}
use Rattle.wire.specs.Bytes.{little_endian, from_little_endian, straight, bytes, writes, wrote}
use Rattle.wire.specs.Reads.{answer}
use Rattle.wire.proofs.Positions.{length-wrote, wrote-append, byte_kept, outside_writes, bytes_kept, bytes_read_back, bytes-part, bytes-first, bytes_that_fit, bytes_at-same, number-written}
use Rattle.wire.proofs.Wrapped.{wrapped-apart, wrapped_shift}
use Rattle.icmsg.specs.Ring.{read_index_at, write_index_at, data_at, from, index_at, in_rule, used, packet_length, packet, content_length, behind}
use Rattle.icmsg.specs.Rules.{accepted, refusal, push_number, push_writes, pushed, push_rule, found, look_rule, read_to, pull_found}
use Rattle.icmsg.specs.Laws.{Sound, after, UnreadKept, RoundTrip}
use Rattle.icmsg.specs.declared.Ring.{Ring}
use Rattle.icmsg.proofs.Checks.{HasSpace, used-straight}
use Rattle.icmsg.proofs.Indexes.{push-passed, push-index, indexes_in_rule, used-back, used_of}
use Rattle.icmsg.proofs.Pulls.{partner, length_at, look_flat, take_flat, past_6}

-- ---- positions of a ring that lies in its region

-- a data byte stands behind both indexes
pub data_low : (g : Ring) (i j : ℕ) → data_at g ≤ from g i j
data_low g i j = omega arith

size_some : {n : ℕ} {g : Ring} {i : ℕ} → Sound n g i → 0 < g.data_length
size_some s = omega (arith, s.below)

-- and before the end of the data
pub data_high : (n : ℕ) (g : Ring) (o i j : ℕ) → Sound n g o → from g i j < data_at g + g.data_length
data_high n g o i j s = omega (arith, mod-lt (i + j) (size_some s))

-- the place at the write index w is that at the read index r, as many bytes further on as are used
pub further_on : (g : Ring) (r w j : ℕ) → r < g.data_length → w < g.data_length → from g w j ≡ from g r (used g.data_length r w + j)
further_on g r w j h k =
    ap (λ (x : ℕ). from g x j) (sym (used-back g.data_length r w h k)) ∙ wrapped_shift (data_at g) g.data_length r (used g.data_length r w) j

length-packet : (c : List ℕ) → length (packet c) ≡ packet_length (length c)
unfolding packet packet_length
length-packet c = simp (length-append, length-replicate) (omega arith)

pub packet_low : (k : ℕ) → 4 + k ≤ packet_length k
unfolding packet_length
packet_low k = omega arith

-- ---- the bytes after an accepted push of c at w

abbrev pub with_packet : List ℕ → Ring → ℕ → List ℕ → List ℕ
with_packet s g w c = wrote s (writes (from g w) (packet c))

abbrev pub with_index : List ℕ → Ring → ℕ → List ℕ → List ℕ
with_index s g w c = wrote (with_packet s g w c) (writes (straight (write_index_at g)) (little_endian 4 (behind g.data_length w (length c))))

pub after_push : (s : List ℕ) (g : Ring) (w : ℕ) (c : List ℕ) → passed (push_number (length s) g (index_at s (read_index_at g)) w (length c)) (pushed [] g w c) refusal ≡ pushed [] g w c →
    after s (push_rule s g w c) ≡ with_index s g w c
unfolding push_rule push_writes
after_push s g w c e = rw e (wrote-append s _ _)

module _ (s : List ℕ) (g : Ring) (w : ℕ) (c : List ℕ) (o : Sound (length s) g w) (short : packet_length (length c) ≤ g.data_length - 1) where
  -- the packet is read back
  packet-read : bytes (with_index s g w c) (from g w) (packet_length (length c)) ≡ packet c
  unfolding little_endian
  packet-read =
      rw (← length-packet c)
      (bytes_kept (with_packet s g w c) (straight (write_index_at g)) (from g w) (little_endian 4 (behind g.data_length w (length c))) (length (packet c))
      (λ i j _ lt e. omega (arith, e, data_low g w i))
      ∙ bytes_read_back s (from g w) (packet c) (λ j lt. omega (arith, o.inside, data_high (length s) g w w j o))
      (λ i j lt below e. wrapped-apart (data_at g) g.data_length w i j lt (omega (arith, length-packet c, o.below)) e))

  part : (m k : ℕ) → m + k ≤ packet_length (length c) → bytes (with_index s g w c) (λ j. from g w (m + j)) k ≡ take k (drop m (packet c))
  part m k h = bytes-part (with_index s g w c) (from g w) (packet_length (length c)) m k h ∙ ap (λ (l : List ℕ). take k (drop m l)) packet-read

  -- so are its length and its content
  pub length-read : length_at g w (with_index s g w c) ≡ length c
  unfolding content_length packet
  length-read =
      ap content_length
      (bytes_at-same (with_index s g w c) (from g w) (λ j. from g w (0 + j)) 2 (λ j _. ap (from g w) (sym (zero-add j)))
      ∙ part 0 2 (omega (arith, packet_low (length c))))
      ∙ omega arith

  pub content_read : (m : ℕ) → m ≤ length c → bytes (with_index s g w c) (from g (w + 4)) m ≡ take m c
  unfolding packet
  content_read m le =
      bytes_at-same (with_index s g w c) (from g (w + 4)) (λ j. from g w (4 + j)) m (λ j _. ap (λ (x : ℕ). data_at g + x % g.data_length) (add_assoc w 4 j))
      ∙ part 4 m (omega (arith, packet_low (length c)))
      ∙ take-append-le m c _ le

  -- and the index behind it
  pub index_read : g.data_length < 4294967296 → partner g (with_index s g w c) ≡ behind g.data_length w (length c)
  unfolding index_at behind
  index_read small =
      number-written (with_packet s g w c) (write_index_at g) 4 ((w + packet_length (length c)) % g.data_length)
      (rw (length-wrote s (writes (from g w) (packet c))) (omega (arith, o.inside)))
      (omega (arith, mod-lt (w + packet_length (length c)) (size_some o), small))

  -- so a look finds the packet
  used_by_packet : used g.data_length w (behind g.data_length w (length c)) ≡ packet_length (length c)
  unfolding behind
  used_by_packet = used_of g.data_length w (packet_length (length c)) o.below (omega (arith, o.below))

  moved_on : behind g.data_length w (length c) ≡ w → ⊥
  moved_on e =
      let z : used g.data_length w w ≡ packet_length (length c) = rw e at used_by_packet in
      omega (arith, z, used-straight g.data_length w w (omega arith) o.below, packet_low (length c))

  packet-found : g.data_length < 4294967296 → in_rule g.data_length (behind g.data_length w (length c)) ≡ true → answer (look_rule g w) (with_index s g w c) ≡ found (length c)
  packet-found small rule =
      let i : ℕ = behind g.data_length w (length c) in
      let k : ℕ = packet_length (length c) in
      rw (look_flat g w (with_index s g w c), index_read small, length-read, rule, ne_eqb i w moved_on, used_by_packet, le-leb k k (omega arith))

-- as many of the content as fit b bytes
pub take_that_fit : (c : List ℕ) (b : ℕ) → take (min (length c) b) c ≡ take b c
take_that_fit c b =
    ap (λ (m : ℕ). take m c) (min_comm (length c) b)
    ∙ sym (bytes-first c (min b (length c)) (omega arith))
    ∙ bytes_that_fit c b

pub push_and_pull : RoundTrip
unfolding push_rule
push_and_pull s g w c k i b small h =
    let r : ℕ = index_at s (read_index_at g) in
    let p = push-passed (length s) g r w (length c) (pushed [] g w c) k i h in
    let short : packet_length (length c) ≤ g.data_length - 1 = omega (arith, p.room.fits) in
    let e : i ≡ behind g.data_length w (length c) = push-index (length s) g r w [] c k i h in
    let rule : in_rule g.data_length (behind g.data_length w (length c)) ≡ true = rw e at (indexes_in_rule.push s g w c k i h) in
    rw (after_push s g w c p.is, e)
    (past_6 (length s) g w b (with_index s g w c) p.test
    ∙ ap (λ f. answer (pull_found g w b f) (with_index s g w c)) (packet-found s g w c p.sound short small rule)
    ∙ take_flat g w b (with_index s g w c) (length c)
    ∙ ap (λ (l : List ℕ). record { answer = accepted (length c) (behind g.data_length w (length c)); region = read_to g (behind g.data_length w (length c)); buffer = writes (straight 0) l })
    (content_read s g w c p.sound short (min (length c) b) (omega arith) ∙ take_that_fit c b))

-- ---- a push leaves alone what is unread

module _ (s : List ℕ) (g : Ring) (w : ℕ) (c : List ℕ) (o : Sound (length s) g w) where
  pub unread_byte : (r : ℕ) → HasSpace g.data_length r w (length c) → (j : ℕ) → j < used g.data_length r w → get_or (with_index s g w c) (from g r j) 0 ≡ get_or s (from g r j) 0
  unfolding little_endian
  unread_byte r h j lt =
      byte_kept (with_packet s g w c) (writes (straight (write_index_at g)) (little_endian 4 (behind g.data_length w (length c)))) (from g r j)
      (outside_writes (straight (write_index_at g)) (little_endian 4 (behind g.data_length w (length c))) (from g r j) (λ i few e. omega (arith, e, data_low g r j)))
      ∙ byte_kept s (writes (from g w) (packet c)) (from g r j)
      (outside_writes (from g w) (packet c) (from g r j)
      (λ i l e.
      let f : i < packet_length (length c) = rw (length-packet c) at l in
      wrapped-apart (data_at g) g.data_length r j (used g.data_length r w + i) (omega arith) (omega (arith, h.fits, o.below)) (e ∙ further_on g r w i h.below o.below)))

  pub partner_kept : index_at (with_index s g w c) (read_index_at g) ≡ index_at s (read_index_at g)
  unfolding index_at little_endian
  partner_kept =
      ap from_little_endian
      (bytes_kept (with_packet s g w c) (straight (write_index_at g)) (straight (read_index_at g)) (little_endian 4 (behind g.data_length w (length c))) 4
      (λ i j lt few e. omega (arith, o.header, e))
      ∙ bytes_kept s (from g w) (straight (read_index_at g)) (packet c) 4 (λ i j lt _ e. omega (arith, o.header, e, data_low g w j)))

pub push_keeps_what_is_unread : UnreadKept
unfolding push_rule
push_keeps_what_is_unread s g w c k i h =
    let r : ℕ = index_at s (read_index_at g) in
    let p = push-passed (length s) g r w (length c) (pushed [] g w c) k i h in
    rw (after_push s g w c p.is) (unread_byte s g w c p.sound r p.room, partner_kept s g w c p.sound)
