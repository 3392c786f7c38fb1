-- An arriving message measured: checks 6, 16, 17 and 18, by what the code has found.
use Prim.Native.Nat.{ℕ, ◌+◌, ◌-◌, ◌*◌, ◌≤◌, ◌<◌}
use mathlib.Core.Bool.{true, false}
use mathlib.Core.Path.{◌≡◌}
use mathlib.Core.List.{List, [], ◌∷◌}
use native.Mathlib.Omega.{arith}
use native.Mathlib.Nat.{mul-le-mul_right, add-mul}
use lib.Dec.{leb}
use borrow.Author.Tests.{leb-true, le-leb, lt-leb, le-ltb, lt-ltb}
use Rattle.blocks.specs.Tables.{all_free, blocks_for}
use Rattle.blocks.specs.declared.Entry.{Entry}
use Rattle.blocks.proofs.Tables.{every}
use Rattle.blocks.proofs.LeastBlocks.{blocks_hold, blocks_least, blocks-one}
use Rattle.checks.specs.Measuring.{are_lent, place_number}
use Rattle.icbmsg.specs.declared.Region.{Region}

-- what check 6 says
pub record Lent (n : ℕ) (g : Region) : Type 0 where
  pub size : 4 ≤ g.block_size
  pub few : g.block_count ≤ 256
  pub blocks : g.blocks_offset + g.block_count * g.block_size ≤ n
  pub bytes : n ≤ 1048576

pub lent_says : (n : ℕ) (g : Region) → are_lent n g ≡ true → Lent n g
lent_says n g h =
    let w = every (leb 4 g.block_size ∷ leb g.block_count 256 ∷ leb (g.blocks_offset + g.block_count * g.block_size) n ∷ leb n 1048576 ∷ []) h in
    record {
      size = leb-true 4 g.block_size w.0;
      few = leb-true g.block_count 256 w.1.0;
      blocks = leb-true (g.blocks_offset + g.block_count * g.block_size) n w.1.1.0;
      bytes = leb-true n 1048576 w.1.1.1.0;
    }

module _ (n : ℕ) (g : Region) (t : List Entry) (b k : ℕ) where
  pub not_lent : are_lent n g ≡ false → 6 ≡ place_number n g t b k
  not_lent h = rw h

  module _ (a : are_lent n g ≡ true) where
    pub bad_block : g.block_count ≤ b → 16 ≡ place_number n g t b k
    bad_block h = rw (a, le-ltb b g.block_count h)

    module _ (h : b < g.block_count) where
      pub past_the_last : (g.block_count - b) * g.block_size < k + 4 → 17 ≡ place_number n g t b k
      past_the_last l = rw (a, lt-ltb b g.block_count h, lt-leb (k + 4) ((g.block_count - b) * g.block_size) l)

      module _ (l : k + 4 ≤ (g.block_count - b) * g.block_size) where
        pub block_held : all_free t b (blocks_for g.block_size k) ≡ false → 18 ≡ place_number n g t b k
        block_held u = rw (a, lt-ltb b g.block_count h, le-leb (k + 4) ((g.block_count - b) * g.block_size) l, u)

        pub all_four : all_free t b (blocks_for g.block_size k) ≡ true → 0 ≡ place_number n g t b k
        all_four u = rw (a, lt-ltb b g.block_count h, le-leb (k + 4) ((g.block_count - b) * g.block_size) l, u)

-- its header lies in the n bytes that are lent, and the rest of the blocks is no more than they
pub header-inside : (n : ℕ) (g : Region) (b : ℕ) → Lent n g → b < g.block_count → g.blocks_offset + b * g.block_size + 4 ≤ n
header-inside n g b o h =
    let q : b + 1 ≤ g.block_count = omega arith in
    let p : (b + 1) * g.block_size ≤ g.block_count * g.block_size = mul-le-mul_right g.block_size q in
    omega (arith, o.blocks, o.size, add-mul b 1 g.block_size)

pub rest-inside : (n : ℕ) (g : Region) (b : ℕ) → Lent n g → (g.block_count - b) * g.block_size ≤ n
rest-inside n g b o =
    let r : g.block_count - b ≤ g.block_count = omega arith in
    omega (arith, mul-le-mul_right g.block_size r, o.blocks)

-- as many blocks as it needs lie inside
pub need-inside : (n : ℕ) (g : Region) (b k m : ℕ) → Lent n g → b < g.block_count → k + 4 ≤ (g.block_count - b) * g.block_size → m ≡ blocks_for g.block_size k →
    (1 ≤ m) × (b + m ≤ g.block_count) × (k + 4 ≤ m * g.block_size)
need-inside n g b k m o h l q =
    let z : 0 < g.block_size = omega (arith, o.size) in
    rw q (blocks-one g.block_size k z, omega (arith, blocks_least g.block_size k (g.block_count - b) l z), blocks_hold g.block_size k z)
