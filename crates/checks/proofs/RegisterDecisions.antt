-- Register: each way out of its decision, by the facts that the code has there.
use Prim.Native.Nat.{ℕ, ◌≤◌, ◌<◌}
use mathlib.Core.Bool.{Bool, true, false, not, ◌&&◌}
use mathlib.Core.Path.{◌≡◌, ap, ◌∙◌}
use mathlib.Core.List.{List}
use lib.Dec.{leb, eqb}
use lib.ListN.{length}
use borrow.Author.Tests.{leb-true}
use Rattle.wire.proofs.Choices.{both}
use Rattle.std.specs.Prelude.{Ok}
use Rattle.blocks.specs.Names.{padded_name}
use Rattle.blocks.specs.Search.{nowhere, found_at, any}
use Rattle.endpoints.specs.Endpoints.{is_unused, at, registered, endpoint_at, some_endpoint, registered_as, good_name}
use Rattle.endpoints.specs.declared.Endpoint.{Endpoint}
use Rattle.icbmsg.specs.Outcome.{refused}
use Rattle.icbmsg.specs.Ends.{whole}
use Rattle.icbmsg.specs.Registering.{register_of}
use Rattle.icbmsg.specs.End.{End}
use Rattle.checks.specs.Decisions.{PlaceAs}

-- a good name has 1 to 31 bytes
pub good_length : (n : List ℕ) → good_name 31 n ≡ true → (1 ≤ length n) × (length n ≤ 31)
unfolding good_name
good_length n h =
    let a = both (leb 1 (length n) && leb (length n) 31) (not (any (λ b. eqb b 0) n)) h in
    let b = both (leb 1 (length n)) (leb (length n) 31) a.0 in
    (leb-true 1 (length n) b.0, leb-true (length n) 31 b.1)

-- the search for a name that is kept so
pub registered_of : (ps : List Endpoint) (kept n : List ℕ) → kept ≡ padded_name n → (x : Bool) → x ≡ some_endpoint (registered_as kept) ps → x ≡ some_endpoint (registered n) ps
registered_of ps kept n l x h = h ∙ ap (λ (m : List ℕ). some_endpoint (registered_as m) ps) l

module _ (e : End) (l : ℕ) (n : List ℕ) where
  pub register_6 : whole e e.tx l ≡ false → register_of e l n ≡ refused e 6
  unfolding register_of
  register_6 h = rw h

  module _ (h : whole e e.tx l ≡ true) where
    pub register_20 : good_name 31 n ≡ false → register_of e l n ≡ refused e 20
    unfolding register_of
    register_20 k = rw (h, k)

    module _ (k : good_name 31 n ≡ true) where
      pub register_21 : some_endpoint (registered n) e.endpoints ≡ true → register_of e l n ≡ refused e 21
      unfolding register_of
      register_21 p = rw (h, k, p)

      module _ (p : some_endpoint (registered n) e.endpoints ≡ false) where
        pub register_22 : endpoint_at (at is_unused) e.endpoints ≡ nowhere → register_of e l n ≡ refused e 22
        unfolding register_of
        register_22 q = rw (h, k, p, q)

        pub register_at : (i : ℕ) (kept : List ℕ) → endpoint_at (at is_unused) e.endpoints ≡ found_at i → kept ≡ padded_name n → i < 8 → PlaceAs (Ok (record { place = i; name = kept })) e l n
        unfolding register_of
        register_at i kept q r b = (rw (h, k, p, q), h, k, r, b)
