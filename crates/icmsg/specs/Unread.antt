-- The unread packets of a ring: a list that can be read off the bytes of its region, that a push extends, and that a pull shortens.
use Rattle.std.specs.Prelude.{ℕ, zero, suc, ◌+◌, ◌-◌, ◌/◌, ◌≤◌, ◌<◌, ◌≡◌, List, [], ◌∷◌, ◌++◌, leb, length, take}
use Rattle.wire.specs.Choice.{pick}
use Rattle.wire.specs.Bytes.{straight, bytes, writes, wrote}
use Rattle.wire.specs.Reads.{answer}
use Rattle.icmsg.specs.Ring.{data_length, read_index_at, write_index_at, data_at, from, index_at, used, packet_length, content_length, behind, start_content}
use Rattle.icmsg.specs.Rules.{accepted, answer_number, refusal, push_rule, start_rule, read_to, pull_rule}
use Rattle.icmsg.specs.Laws.{Sound, after}
use Rattle.icmsg.specs.declared.Ring.{Ring}

-- the content's length that a packet at index r says
abbrev pub says_at : Ring → List ℕ → ℕ → ℕ
says_at g s r = content_length (bytes s (from g r) 2)

-- the contents of the whole packets in n bytes from index r on, at most f of them
unfoldable pub packets_from : ℕ → Ring → List ℕ → ℕ → ℕ → List (List ℕ)
packets_from zero g s r n = []
packets_from (suc f) g s r n =
    let k : ℕ = says_at g s r in
    pick (leb (packet_length k) n) (bytes s (from g (r + 4)) k ∷ packets_from f g s (behind (data_length g) r k) (n - packet_length k)) []

-- R17: from the read index to the write index, as both stand in the region; a packet has four bytes at least
unfoldable pub unread : Ring → List ℕ → List (List ℕ)
unread g s =
    packets_from (data_length g / 4) g s (index_at s (read_index_at g))
    (used (data_length g) (index_at s (read_index_at g)) (index_at s (write_index_at g)))

-- the bytes that packets with these contents take
unfoldable pub packet_bytes : List (List ℕ) → ℕ
packet_bytes [] = 0
packet_bytes (c ∷ cs) = packet_length (length c) + packet_bytes cs

-- ---- a ring that holds whole packets

-- n bytes from index r on are packets with these contents, and nothing else
pub data Lies (g : Ring) (s : List ℕ) : ℕ → ℕ → List (List ℕ) → Type 0 where
  none : {r : ℕ} → Lies g s r 0 []
  more : {r n : ℕ} {cs : List (List ℕ)} (c : List ℕ) → says_at g s r ≡ length c → bytes s (from g (r + 4)) (length c) ≡ c →
      Lies g s (behind (data_length g) r (length c)) n cs → Lies g s r (packet_length (length c) + n) (c ∷ cs)

-- its reader's own index is r, its writer's w, both are written out, and what is unread are packets with these contents
pub record Holds (g : Ring) (s : List ℕ) (r w : ℕ) (cs : List (List ℕ)) : Type 0 where
  pub sound_read : Sound (length s) g r
  pub sound_write : Sound (length s) g w
  pub reader : index_at s (read_index_at g) ≡ r
  pub writer : index_at s (write_index_at g) ≡ w
  pub lies : Lies g s r (used (data_length g) r w) cs

-- the region's numbers have 32 bits
abbrev pub Small : Ring → Type 0
Small g = data_length g < 4294967296

-- these writes leave the ring alone
abbrev pub Beside : Ring → List (ℕ × ℕ) → Type 0
Beside g [] = Unit {0}
Beside g (w ∷ ws) = (g.offset ≤ w.0 → data_at g + data_length g ≤ w.0) × Beside g ws

-- ---- THE LAWS, R17

pub record UnreadPackets : Type 0 where
  -- such a ring's list is just these contents, and they are all that is used
  pub listed : (g : Ring) (s : List ℕ) (r w : ℕ) (cs : List (List ℕ)) → Holds g s r w cs → (unread g s ≡ cs) × (used (data_length g) r w ≡ packet_bytes cs)
  -- a start leaves its content alone, whatever stood there
  pub start : (s : List ℕ) (g : Ring) (k i : ℕ) → Small g → (start_rule (length s) g).answer ≡ accepted k i →
      Holds g (after s (start_rule (length s) g)) 0 i (start_content ∷ [])
  -- a push appends its content
  pub push : (s : List ℕ) (g : Ring) (r w : ℕ) (c : List ℕ) (cs : List (List ℕ)) (k i : ℕ) → Small g → Holds g s r w cs → (push_rule s g w c).answer ≡ accepted k i →
      Holds g (after s (push_rule s g w c)) r i (cs ++ (c ∷ []))
  -- a pull takes the first, with as many of its bytes as a buffer of b bytes takes
  pub pull : (s : List ℕ) (g : Ring) (r w b : ℕ) (c : List ℕ) (cs : List (List ℕ)) → Small g → Holds g s r w (c ∷ cs) →
      let i : ℕ = behind (data_length g) r (length c) in
      (answer (pull_rule (length s) g r b) s ≡ record { answer = accepted (length c) i; region = read_to g i; buffer = writes (straight 0) (take b c) })
      × Holds g (wrote s (read_to g i)) i w cs
  -- where there is none it is 8, never 7 or 9
  pub empty : (s : List ℕ) (g : Ring) (r w b : ℕ) → Holds g s r w [] → answer (pull_rule (length s) g r b) s ≡ refusal 8
  -- after a 9, on any other ring, nothing is unread
  pub nine : (s : List ℕ) (g : Ring) (r b : ℕ) → Small g → answer_number (answer (pull_rule (length s) g r b) s).answer ≡ 9 →
      let w : ℕ = index_at s (write_index_at g) in Holds g (after s (answer (pull_rule (length s) g r b) s)) w w []
  -- what is written beside the ring changes nothing on it
  pub elsewhere : (s : List ℕ) (g : Ring) (r w : ℕ) (cs : List (List ℕ)) (ws : List (ℕ × ℕ)) → Beside g ws → Holds g s r w cs → Holds g (wrote s ws) r w cs
