-- The code's test of an end's numbers, and the rules' list of tests.
use Prim.Native.Nat.{ℕ, ◌%◌}
use mathlib.Core.Bool.{Bool, true, false, ◌&&◌}
use mathlib.Core.Path.{◌≡◌, refl}
use mathlib.Core.List.{List, [], ◌∷◌, ◌++◌}
use lib.Dec.{leb, eqb}
use Rattle.wire.specs.Choice.{pick}
use Rattle.wire.proofs.Choices.{and_pick}
use Rattle.blocks.specs.Search.{all}
use Rattle.icmsg.specs.Ring.{in_rule}
use Rattle.icbmsg.specs.Ends.{sound_region, open_numbers}
use Rattle.icbmsg.specs.declared.Region.{Region}

pub all_append : (xs ys : List Bool) → all (xs ++ ys) ≡ pick (all xs) (all ys) false
all_append [] ys = refl
all_append (true ∷ xs) ys = all_append xs ys
all_append (false ∷ xs) ys = refl

pub open_of : (a : ℕ) (t r : Region) (w i : ℕ) (x y p q : Bool) → x ≡ in_rule t.data_length w → y ≡ in_rule r.data_length i → p ≡ all (sound_region a t) → q ≡ all (sound_region a r) →
    (leb 4 a && (leb a 256 && (eqb (a % 4) 0 && (x && (y && (p && q)))))) ≡ open_numbers a t r w i
open_of a t r w i x y p q h k l m = rw (h, k, l, m, all_append (sound_region a t) (sound_region a r)) (simp and_pick)
