-- A name in the limits.
use Prim.Native.Nat.{ℕ, ◌≤◌, ◌<◌}
use mathlib.Core.Bool.{Bool, false, not, ◌||◌}
use mathlib.Core.Path.{◌≡◌, refl, ap}
use mathlib.Core.List.{List, [], ◌∷◌}
use lib.Dec.{eqb}
use lib.ListN.{length}
use borrow.Author.Tests.{le-leb, lt-leb}
use Rattle.std.specs.List.{list_any}
use Rattle.blocks.specs.Search.{any}
use Rattle.endpoints.specs.Endpoints.{good_name}

any_is : (f : ℕ → Bool) (n : List ℕ) → list_any f n ≡ any f n
any_is f [] = refl
any_is f (x ∷ n) = ap (λ (b : Bool). f x || b) (any_is f n)

module _ (m : ℕ) (n : List ℕ) where
  pub too_short : length n < 1 → false ≡ good_name m n
  unfolding good_name
  too_short l = rw (lt-leb 1 (length n) l)

  module _ (l : 1 ≤ length n) where
    pub too_long : m < length n → false ≡ good_name m n
    unfolding good_name
    too_long k = rw (le-leb 1 (length n) l, lt-leb (length n) m k)

    pub in_limits : (r : Bool) → length n ≤ m → r ≡ list_any (λ b. eqb b 0) n → not r ≡ good_name m n
    unfolding good_name
    in_limits r k h = rw (le-leb 1 (length n) l, le-leb (length n) m k, h, any_is (λ b. eqb b 0) n)
