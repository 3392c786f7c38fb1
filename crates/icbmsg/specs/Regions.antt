-- A region's numbers by their names.
use Rattle.std.specs.Prelude.{ℕ}
use Rattle.icbmsg.specs.declared.Region.{Region}

-- the ring's offset in the region's bytes, and its data length
abbrev pub ring_offset : Region → ℕ
ring_offset g = g.ring_offset

abbrev pub data_length : Region → ℕ
data_length g = g.data_length

-- the first block's offset, how many blocks there are, and the size of each
abbrev pub blocks_offset : Region → ℕ
blocks_offset g = g.blocks_offset

abbrev pub block_count : Region → ℕ
block_count g = g.block_count

abbrev pub block_size : Region → ℕ
block_size g = g.block_size
