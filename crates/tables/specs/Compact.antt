-- Two tables of blocks in 3,136 bytes (docs/RULES.md, S8), a table being 1,568 bytes from a base on, and the entries that each stands for.
use Rattle.std.specs.Prelude.{ℕ, zero, suc, ◌+◌, ◌*◌, ◌/◌, ◌%◌, ◌^◌, ◌≤◌, ◌<◌, Bool, ◌&&◌, ◌≡◌, List, [], ◌∷◌, eqb, leb, ltb, get_or, length}
use Rattle.wire.specs.Choice.{pick}
use Rattle.blocks.specs.Tables.{free_entry, inside_entry, run_entry}
use Rattle.blocks.specs.declared.Use.{Use}
use Rattle.blocks.specs.declared.Use.TheVariants.{Free, Inside, Reserved, SentData, SentBinding, ReceivedData, StoredBinding}
use Rattle.blocks.specs.declared.Entry.{Entry}

-- bit j of the byte b
abbrev pub bit_of : ℕ → ℕ → Bool
bit_of b j = eqb (b / 2 ^ j % 2) 1

-- the bits of block i's byte from its own on, which is the lowest
abbrev pub bits_at : List ℕ → ℕ → ℕ → ℕ
bits_at t base i = get_or t (base + i / 8) 0 / 2 ^ (i % 8)

-- these are kept of a byte for block i, unless it is the first of another
pub record Kept (t : List ℕ) (base i bits : ℕ) : Type 0 where
  pub rest : 0 < i % 8 → bits ≡ bits_at t base i

-- block i is held: one of the 256 bits from the base on
unfoldable pub held_at : List ℕ → ℕ → ℕ → Bool
held_at t base i = bit_of (get_or t (base + i / 8) 0) (i % 8)

-- what a start's state byte says, and the byte of a start's use
abbrev pub use_of : ℕ → Use
use_of b = pick (eqb b 1) Reserved (pick (eqb b 2) SentData (pick (eqb b 3) SentBinding (pick (eqb b 4) ReceivedData StoredBinding)))

abbrev pub state_of : Use → ℕ
state_of Free = 0
state_of Inside = 0
state_of Reserved = 1
state_of SentData = 2
state_of SentBinding = 3
state_of ReceivedData = 4
state_of StoredBinding = 5

-- what the six bytes of block i say: state, address, count less one, length. The state 0 is that of a block which is no start
unfoldable pub start_entry : List ℕ → ℕ → ℕ → Entry
start_entry t base i =
    pick (eqb (get_or t (base + 32 + i) 0) 0)
    inside_entry
    (run_entry (use_of (get_or t (base + 32 + i) 0)) (get_or t (base + 544 + i) 0 + 1) (get_or t (base + 288 + i) 0) (get_or t (base + 800 + i) 0 + 256 * get_or t (base + 1056 + i) 0 + 65536 * get_or t (base + 1312 + i) 0))

-- the entry of block i: free by its bit, else what its bytes say
unfoldable pub entry_at : List ℕ → ℕ → ℕ → Entry
entry_at t base i = pick (held_at t base i) (start_entry t base i) free_entry

-- n entries from block i on
unfoldable pub entries_from : List ℕ → ℕ → ℕ → ℕ → List Entry
entries_from t base i zero = []
entries_from t base i (suc n) = entry_at t base i ∷ entries_from t base (suc i) n

-- the table as the rules speak of it: an entry for each block
unfoldable pub table_of : List ℕ → ℕ → List Entry
table_of t base = entries_from t base 0 256

-- the table at base has become l, and no other
pub record Changed (t t' : List ℕ) (base : ℕ) (l : List Entry) : Type 0 where
  pub long : length t' ≡ 3136
  pub table : table_of t' base ≡ l
  pub lower : (b : ℕ) → b + 1568 ≤ base → table_of t' b ≡ table_of t b
  pub upper : (b : ℕ) → base + 1568 ≤ b → table_of t' b ≡ table_of t b

-- ---- what is done to the bytes on the way

-- the bits of m from low on, as far as high, are set
abbrev pub IsMask : ℕ → ℕ → ℕ → Type 0
IsMask low high m = (j : ℕ) → j < 8 → bit_of m j ≡ (leb low j && ltb j high)

-- r is the byte b with the bits of m made v
abbrev pub IsPut : ℕ → ℕ → Bool → ℕ → Type 0
IsPut b m v r = (j : ℕ) → bit_of r j ≡ pick (bit_of m j) v (bit_of b j)

-- the bits of the blocks from s on, as far as e, are v, and nothing else has changed
pub record Marked (v : Bool) (base s e : ℕ) (t t' : List ℕ) : Type 0 where
  pub inside : (i : ℕ) → s ≤ i → i < e → held_at t' base i ≡ v
  pub below : (i : ℕ) → i < s → held_at t' base i ≡ held_at t base i
  pub above : (i : ℕ) → e ≤ i → held_at t' base i ≡ held_at t base i
  pub lower : (p : ℕ) → p < base → get_or t' p 0 ≡ get_or t p 0
  pub upper : (p : ℕ) → base + 32 ≤ p → get_or t' p 0 ≡ get_or t p 0
  pub long : length t' ≡ length t

-- the bytes from s on, as far as e, are 0, and nothing else has changed
pub record Cleared (s e : ℕ) (t t' : List ℕ) : Type 0 where
  pub inside : (p : ℕ) → s ≤ p → p < e → get_or t' p 0 ≡ 0
  pub below : (p : ℕ) → p < s → get_or t' p 0 ≡ get_or t p 0
  pub above : (p : ℕ) → e ≤ p → get_or t' p 0 ≡ get_or t p 0
  pub long : length t' ≡ length t
