-- Where a run starts: never beyond the table, and received data only where its blocks hold its length.
use Prim.Native.Nat.{ℕ, zero, suc, ◌≤◌}
use mathlib.Core.Bool.{Bool, true, false}
use mathlib.Core.Path.{◌≡◌, refl}
use mathlib.Core.List.{List, [], ◌∷◌}
use native.Mathlib.Omega.{arith}
use lib.Dec.{ltb}
use lib.ListN.{length}
use Rattle.std.specs.Bool.{then_some}
use Rattle.wire.specs.Choice.{pick}
use Rattle.blocks.specs.Tables.{free_entry, entry, is_use, starts, IsRun}
use Rattle.blocks.specs.declared.Use.{Use}
use Rattle.blocks.specs.declared.Use.TheVariants.{Free}
use Rattle.blocks.specs.declared.Entry.{Entry}

entry-beyond : (t : List Entry) (s : ℕ) → length t ≤ s → entry t s ≡ free_entry
entry-beyond [] s h = refl
entry-beyond (x ∷ t) zero h = absurd (omega arith)
entry-beyond (x ∷ t) (suc s) h = entry-beyond t s (omega arith)

none-starts : (b c : Bool) → pick b (pick (pick c false false) true false) false ≡ false
none-starts true true = refl
none-starts true false = refl
none-starts false c = refl

pub starts-beyond : (u : Use) (c : ℕ) (t : List Entry) (s : ℕ) → length t ≤ s → starts u c t s ≡ false
starts-beyond u c t s h = rw (entry-beyond t s h) (none-starts (is_use u Free) (ltb s c))

-- what is read of a start tells whether a run is there
pub run_found : (t : List Entry) (s : ℕ) (x : Entry) (b d : Bool) → x ≡ entry t s → d ≡ b → IsRun (then_some b x) t s d
run_found t s x true d e h = (e, h)
run_found t s x false d e h = h
