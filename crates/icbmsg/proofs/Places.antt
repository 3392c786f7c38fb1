-- A part that a call hands out lies inside its own message, and those of different starts share no byte.
use Prim.Native.Nat.{ℕ, ◌+◌, ◌*◌, ◌≤◌, ◌<◌}
use mathlib.Core.Bool.{Bool, true, false}
use mathlib.Core.Path.{◌≡◌, refl}
use mathlib.Core.Logic.{◌≢◌}
use mathlib.Core.List.{List}
use native.Mathlib.Omega.{arith}
use native.Mathlib.Nat.{mul-le-mul_right, add-mul}
use lib.Dec.{ltb}
use borrow.Author.Tests.{leb-true, ltb-true, ltb-false}
use Rattle.blocks.specs.Tables.{entry}
use Rattle.blocks.specs.WellFormed.{Live, WellFormed}
use Rattle.blocks.specs.declared.Entry.{Entry}
use Rattle.blocks.proofs.Tables.{ends-before}
use Rattle.icbmsg.specs.Outcome.{Given, Outcome}
use Rattle.icbmsg.specs.Ends.{block_at}
use Rattle.icbmsg.specs.Calls.{room, view}
use Rattle.icbmsg.specs.Ledger.{Side, transmit, receive, region_of, table, RunChange}
use Rattle.icbmsg.specs.Theorems.{Part, message_part, part_of}
use Rattle.icbmsg.specs.Places.{InMessage, PartIn, PartsInside, InPart, PartsApart}
use Rattle.icbmsg.specs.declared.Region.{Region}
use Rattle.icbmsg.specs.End.{End}
use Rattle.icbmsg.proofs.Effects.{Effect, refuses, drops, accepts, effect}
use Rattle.icbmsg.proofs.Separate.{separate}

pub parts_inside : PartsInside
parts_inside e c z = go (effect e c) z
  where
    go : {f : Given → RunChange} {p : Part} {o : Outcome} → Effect f e p o → o.number ≡ 0 → PartIn e p o
    go (refuses n h) z = absurd (omega (arith, leb-true 1 n h))
    go (drops n i ws q o r) z = absurd (omega (arith, z))
    go (accepts z o p m) _ = p

-- ---- different starts

-- a byte of the part is one of the message's
record ByteOf (g : Region) (t : List Entry) (s p : ℕ) : Type 0 where
  live : Live t s
  low : block_at g s ≤ p
  high : p < block_at g s + (entry t s).count * g.block_size

message_byte : {g : Region} {t : List Entry} {s : ℕ} {o : Outcome} (p : ℕ) → InMessage g t s o → InPart o p → ByteOf g t s p
message_byte p m i = record { live = m.live; low = omega (arith, m.after_header, i.0); high = omega (arith, m.before_end, i.1) }

-- the part of a refusal has no byte
part_byte : {e : End} {f : Given → RunChange} {o : Outcome} (d : Side) (s p : ℕ) → Effect f e (message_part d s) o → InPart o p → ByteOf (region_of d e) (table d e) s p
part_byte d s p (refuses n h) i = absurd (omega (arith, i.0, i.1))
part_byte d s p (drops n i ws q o r) x = absurd (omega (arith, x.0, x.1))
part_byte d s p (accepts z x m y) i = message_byte p m i

module _ (g : Region) {good : Entry → Bool} {t : List Entry} (w : WellFormed g.block_count good t) (p : ℕ) where
  -- a message that starts before another ends before it
  in_order : (s s' : ℕ) → s < s' → ByteOf g t s p → ByteOf g t s' p → ⊥
  in_order s s' l b b' =
      let m = mul-le-mul_right g.block_size (ends-before w s s' b.live b'.live l) in
      omega (arith, b.high, b'.low, add-mul s (entry t s).count g.block_size)

  apart : (s s' : ℕ) → s ≢ s' → ByteOf g t s p → ByteOf g t s' p → ⊥
  apart s s' d b b' = go (ltb s s') refl
    where
      go : (x : Bool) → ltb s s' ≡ x → ⊥
      go true q = in_order s s' (ltb-true s s' q) b b'
      go false q = in_order s' s (omega (arith, ltb-false s s' q, d)) b' b

pub parts_apart : PartsApart
unfolding part_of
parts_apart e r transmit s s' d l l' p h h' =
    apart e.tx (separate e r).sent p s s' d (part_byte transmit s p (effect e (room l s)) h) (part_byte transmit s' p (effect e (room l' s')) h')
parts_apart e r receive s s' d l l' p h h' =
    apart e.rx (separate e r).held p s s' d (part_byte receive s p (effect e (view l s)) h) (part_byte receive s' p (effect e (view l' s')) h')
