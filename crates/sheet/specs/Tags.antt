-- The bits of a word, for the set of tags that the walk of a list keeps: tag t is bit t % 64 of word t / 64.
use Rattle.std.specs.Prelude.{ℕ, ◌/◌, ◌%◌, ◌^◌, Bool, eqb}
use Rattle.std.specs.Int.Bits.{bit_or}

unfoldable pub has_bit : ℕ → ℕ → Bool
has_bit w k = eqb (w / 2 ^ k % 2) 1

unfoldable pub with_bit : ℕ → ℕ → ℕ
with_bit w k = bit_or w (2 ^ k)
