-- What the code's measure of an arriving message answers.
use Rattle.std.specs.Prelude.{ℕ, ◌+◌, ◌*◌, ◌≤◌, ◌≡◌, Bool, List, [], ◌∷◌, Result, Ok, Err, leb, ltb}
use Rattle.wire.specs.Choice.{check}
use Rattle.refusal.specs.Numbers.{number_of}
use Rattle.region.specs.Layout.{max_blocks, max_bytes}
use Rattle.blocks.specs.Search.{all}
use Rattle.blocks.specs.Tables.{blocks_for}
use Rattle.blocks.specs.declared.Entry.{Entry}
use Rattle.icbmsg.specs.Regions.{block_count, block_size, blocks_offset}
use Rattle.icbmsg.specs.Arrivals.{fits_area, are_free}
use Rattle.icbmsg.specs.declared.Region.{Region}
use Rattle.checks.specs.declared.arrivals.Measured.{Measured}
use Rattle.refusal.specs.declared.Refusal.{Refusal}

-- the region's blocks, at most 256 and of 4 bytes at least, lie in the n bytes that are lent
abbrev pub are_lent : ℕ → Region → Bool
are_lent n g = all (leb 4 (block_size g) ∷ leb (block_count g) max_blocks ∷ leb (blocks_offset g + block_count g * block_size g) n ∷ leb n max_bytes ∷ [])

-- 6, 16, 17, 18, for K bytes in block b of a region whose table is t
abbrev pub place_number : ℕ → Region → List Entry → ℕ → ℕ → ℕ
place_number n g t b k = check (are_lent n g) 6 (check (ltb b (block_count g)) 16 (check (fits_area g b k) 17 (check (are_free t g b k) 18 0)))

abbrev pub measured_number : Result Measured Refusal → ℕ
measured_number (Err x) = number_of x
measured_number (Ok m) = 0

-- K, and its blocks, which lie inside
abbrev pub MeasuredAs : Result Measured Refusal → Region → ℕ → ℕ → Type 0
MeasuredAs (Err x) g b k = Unit {0}
MeasuredAs (Ok m) g b k =
    (m.length ≡ k) × (m.count ≡ blocks_for (block_size g) k) × (1 ≤ m.count) × (b + m.count ≤ block_count g) × (k + 4 ≤ m.count * block_size g)
