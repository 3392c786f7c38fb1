-- What the numbers of an open end say.
use Prim.Native.Nat.{ℕ, ◌+◌, ◌*◌, ◌%◌, ◌≤◌}
use mathlib.Core.Bool.{Bool, true, false, ◌&&◌}
use mathlib.Core.Path.{◌≡◌, sym, ◌∙◌}
use native.Mathlib.Omega.{arith}
use native.Mathlib.Nat.{mul-le-mul_right, add-mul}
use lib.Dec.{leb, eqb}
use borrow.Author.Tests.{leb-true, eqb-true}
use Rattle.wire.specs.Choice.{pick}
use Rattle.wire.proofs.Choices.{both, and_pick}
use Rattle.blocks.specs.Search.{all}
use Rattle.blocks.proofs.Tables.{every}
use Rattle.checks.proofs.OpenNumbers.{all_append}
use Rattle.icmsg.specs.Ring.{in_rule}
use Rattle.icbmsg.specs.Ends.{sound_region, open_numbers, is_open, whole}
use Rattle.icbmsg.specs.declared.Region.{Region}
use Rattle.icbmsg.specs.End.{End}

-- ---- a region

pub record Sound (a : ℕ) (g : Region) : Type 0 where
  pub ring : 32 ≤ g.data_length
  pub ring4 : g.data_length % 4 ≡ 0
  pub front : g.ring_offset + (a + 4) + g.data_length ≤ g.blocks_offset
  pub blocks : g.blocks_offset + g.block_count * g.block_size ≤ g.length
  pub bytes : g.length ≤ 1048576
  pub some : 1 ≤ g.block_count
  pub few : g.block_count ≤ 256
  pub size : 4 ≤ g.block_size

sound_says : (a : ℕ) (g : Region) → all (sound_region a g) ≡ true → Sound a g
sound_says a g h =
    let w = every (sound_region a g) h in
    record {
      ring = leb-true 32 g.data_length w.0;
      ring4 = eqb-true (g.data_length % 4) 0 w.1.0;
      front = leb-true (g.ring_offset + (a + 4) + g.data_length) g.blocks_offset w.1.1.0;
      blocks = leb-true (g.blocks_offset + g.block_count * g.block_size) g.length w.1.1.1.0;
      bytes = leb-true g.length 1048576 w.1.1.1.1.0;
      some = leb-true 1 g.block_count w.1.1.1.1.1.0;
      few = leb-true g.block_count 256 w.1.1.1.1.1.1.0;
      size = leb-true 4 g.block_size w.1.1.1.1.1.1.1.0;
    }

-- ---- an end

pub record Open (e : End) : Type 0 where
  pub alignment : e.alignment ≤ 256
  pub tx : Sound e.alignment e.tx
  pub rx : Sound e.alignment e.rx

first : (b c : Bool) → pick b c false ≡ true → (b ≡ true) × (c ≡ true)
first b c h = both b c (and_pick b c ∙ h)

pub open_says : (e : End) → is_open e ≡ true → Open e
unfolding is_open
open_says e h =
    let h0 = first (leb 4 e.alignment) _ h in
    let h1 = first (leb e.alignment 256) _ h0.1 in
    let h2 = first (eqb (e.alignment % 4) 0) _ h1.1 in
    let h3 = first (in_rule e.tx.data_length e.write) _ h2.1 in
    let h4 = first (in_rule e.rx.data_length e.read) _ h3.1 in
    let h5 = first (all (sound_region e.alignment e.tx)) _ (sym (all_append (sound_region e.alignment e.tx) (sound_region e.alignment e.rx)) ∙ h4.1) in
    record { alignment = leb-true e.alignment 256 h1.0; tx = sound_says _ _ h5.0; rx = sound_says _ _ h5.1 }

-- a run of n blocks from s on lies inside the region's bytes
pub run_inside : (a : ℕ) (g : Region) (s n : ℕ) → Sound a g → s + n ≤ g.block_count → g.blocks_offset + s * g.block_size + n * g.block_size ≤ g.length
run_inside a g s n o h =
    let p : (s + n) * g.block_size ≤ g.block_count * g.block_size = mul-le-mul_right g.block_size h in
    omega (arith, o.blocks, add-mul s n g.block_size)

-- ---- the code's test of an end, and of the m bytes that a call is lent of the region g

module _ (e : End) (x : Bool) (h : x ≡ open_numbers e.alignment e.tx e.rx e.write e.read) where
  pub is_closed : x ≡ false → is_open e ≡ false
  unfolding is_open
  is_closed k = sym h ∙ k

  pub is_open_lem : x ≡ true → is_open e ≡ true
  unfolding is_open
  is_open_lem k = sym h ∙ k

  pub open_is : x ≡ is_open e
  unfolding is_open
  open_is = h

module _ (e : End) (g : Region) (m : ℕ) (x : Bool) (h : x ≡ (open_numbers e.alignment e.tx e.rx e.write e.read && eqb m g.length)) where
  pub not_whole : x ≡ false → whole e g m ≡ false
  unfolding is_open
  not_whole k = sym h ∙ k

  pub is_whole : x ≡ true → whole e g m ≡ true
  unfolding is_open
  is_whole k = sym h ∙ k

  pub whole_is : x ≡ whole e g m
  unfolding is_open
  whole_is = h

-- what a call knows that is lent the whole region
pub record Whole (e : End) (g : Region) (m : ℕ) : Type 0 where
  pub is_open : is_open e ≡ true
  pub lent : m ≡ g.length

pub whole_says : (e : End) (g : Region) (m : ℕ) → whole e g m ≡ true → Whole e g m
whole_says e g m h =
    let w = both (is_open e) (eqb m g.length) h in
    record { is_open = w.0; lent = eqb-true m g.length w.1 }
