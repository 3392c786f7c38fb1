-- The address that an initiator gives is the lowest that no endpoint uses: eight addresses are enough for eight endpoints.
use Prim.Native.Nat.{ℕ, zero, suc, ◌+◌, ◌≤◌, ◌<◌}
use mathlib.Core.Bool.{Bool, true, false, not, ◌&&◌, false≢true}
use mathlib.Core.Path.{◌≡◌, refl, ap}
use mathlib.Core.List.{List, [], ◌∷◌}
use native.Mathlib.Omega.{arith}
use lib.Dec.{ltb, eqb}
use lib.ListN.{length, get_or}
use borrow.Author.Tests.{ltb-true, lt-ltb, le-ltb, eqb-true, eqb-false}
use Rattle.wire.specs.Choice.{pick}
use Rattle.blocks.specs.Search.{Search, nowhere, found_at, is_found}
use Rattle.endpoints.specs.Endpoints.{uses, endpoint_at, some_endpoint, no_endpoint, at, is_unused, unused_from}
use Rattle.icbmsg.specs.Theorems.{AddressLowest}
use Rattle.wire.proofs.Choices.{both}
use Rattle.blocks.proofs.Search.{first-at}
use Rattle.endpoints.specs.declared.Endpoint.{Endpoint}

-- how many pass
count : (Endpoint → Bool) → List Endpoint → ℕ
count f [] = 0
count f (p ∷ ps) = pick (f p) (suc (count f ps)) (count f ps)

-- a test that another implies passes no more, and fewer where one passes the other alone
fewer : (f g : Endpoint → Bool) → ((p : Endpoint) → f p ≡ true → g p ≡ true) → (ps : List Endpoint) → count f ps ≤ count g ps
unfolding count
fewer f g h [] = omega arith
fewer f g h (p ∷ ps) = go (f p) (g p) (h p) (fewer f g h ps)
  where
    go : (a b : Bool) → (a ≡ true → b ≡ true) → count f ps ≤ count g ps → pick a (suc (count f ps)) (count f ps) ≤ pick b (suc (count g ps)) (count g ps)
    go true true k l = omega arith
    go true false k l = absurd (false≢true (k refl))
    go false true k l = omega arith
    go false false k l = l

one_fewer : (f g : Endpoint → Bool) → ((p : Endpoint) → f p ≡ true → g p ≡ true) → (ps : List Endpoint) (j : ℕ) → j < length ps →
    f (get_or ps j no_endpoint) ≡ false → g (get_or ps j no_endpoint) ≡ true → suc (count f ps) ≤ count g ps
unfolding count
one_fewer f g h [] j l q r = absurd (omega arith)
one_fewer f g h (p ∷ ps) zero l q r = rw (q, r) (omega (arith, fewer f g h ps))
one_fewer f g h (p ∷ ps) (suc j) l q r = go (f p) (g p) (h p) (one_fewer f g h ps j (omega arith) q r)
  where
    go : (a b : Bool) → (a ≡ true → b ≡ true) → suc (count f ps) ≤ count g ps → suc (pick a (suc (count f ps)) (count f ps)) ≤ pick b (suc (count g ps)) (count g ps)
    go true true k l = omega arith
    go true false k l = absurd (false≢true (k refl))
    go false true k l = omega arith
    go false false k l = l

all_count : (ps : List Endpoint) → count (λ p. true) ps ≡ length ps
unfolding count
all_count [] = refl
all_count (p ∷ ps) = ap suc (all_count ps)

-- one that is found
found-at : (f : Endpoint → Bool) (ps : List Endpoint) → some_endpoint f ps ≡ true → (j : ℕ) × (f (get_or ps j no_endpoint) ≡ true) × (j < 8)
found-at f ps h = go (endpoint_at f ps) refl h
  where
    go : (q : Search) → endpoint_at f ps ≡ q → is_found q ≡ true → (j : ℕ) × (f (get_or ps j no_endpoint) ≡ true) × (j < 8)
    go nowhere e k = absurd (false≢true k)
    go (found_at j) e k = let w = first-at f no_endpoint ps 8 0 j e in (j, w.0, omega (arith, w.1))

-- in use with an address below n
abbrev uses_below : ℕ → Endpoint → Bool
uses_below n p = not (at is_unused p) && ltb p.address n

below_more : (u : Bool) (a n : ℕ) → (u && ltb a n) ≡ true → (u && ltb a (suc n)) ≡ true
below_more u a n h =
    let w = both u (ltb a n) h in
    rw (w.0, lt-ltb a (suc n) (omega (arith, ltb-true a n w.1)))

not_below : (u : Bool) (a n : ℕ) → a ≡ n → (u && ltb a n) ≡ false
not_below true a n h = le-ltb a n (omega arith)
not_below false a n h = refl

module _ (ps : List Endpoint) (len : length ps ≡ 8) where
  -- n addresses, each in use, are in use by n endpoints at least
  pigeons : (n : ℕ) → ((a : ℕ) → a < n → some_endpoint (uses a) ps ≡ true) → n ≤ count (uses_below n) ps
  pigeons zero h = omega arith
  pigeons (suc n) h =
      let w = found-at (uses n) ps (h n (omega arith)) in
      let p : Endpoint = get_or ps w.0 no_endpoint in
      let z = both (not (at is_unused p)) (eqb p.address n) w.1 in
      let q = eqb-true p.address n z.1 in
      let more = one_fewer (uses_below n) (uses_below (suc n)) (λ x k. below_more (not (at is_unused x)) x.address n k) ps w.0 (omega (arith, w.2))
      (not_below (not (at is_unused p)) p.address n q) (rw (z.0, lt-ltb p.address (suc n) (omega arith))) in
      omega (arith, pigeons n (λ a l. h a (omega arith)))

  -- one unused leaves fewer than eight
  spare : (n : ℕ) → some_endpoint (at is_unused) ps ≡ true → suc (count (uses_below n) ps) ≤ 8
  spare n h =
      let w = found-at (at is_unused) ps h in
      let more = one_fewer (uses_below n) (λ p. true) (λ p k. refl) ps w.0 (omega (arith, w.2)) (rw w.1) refl in
      omega (arith, all_count ps)

  search_lowest : (f a : ℕ) → some_endpoint (at is_unused) ps ≡ true → f + a ≡ 8 → ((b : ℕ) → b < a → some_endpoint (uses b) ps ≡ true) →
      (some_endpoint (uses (unused_from f a ps)) ps ≡ false) × ((b : ℕ) → b < unused_from f a ps → some_endpoint (uses b) ps ≡ true) × (unused_from f a ps < 8)
  unfolding unused_from
  search_lowest zero a s q h = absurd (omega (arith, spare a s, pigeons a h))
  search_lowest (suc f) a s q h = go (some_endpoint (uses a) ps) refl (λ k. search_lowest f (suc a) s (omega arith) k)
    where
      go : (b : Bool) → some_endpoint (uses a) ps ≡ b →
          (((c : ℕ) → c < suc a → some_endpoint (uses c) ps ≡ true) →
          (some_endpoint (uses (unused_from f (suc a) ps)) ps ≡ false) × ((c : ℕ) → c < unused_from f (suc a) ps → some_endpoint (uses c) ps ≡ true) × (unused_from f (suc a) ps < 8)) →
          (some_endpoint (uses (pick b (unused_from f (suc a) ps) a)) ps ≡ false)
          × ((c : ℕ) → c < pick b (unused_from f (suc a) ps) a → some_endpoint (uses c) ps ≡ true)
          × (pick b (unused_from f (suc a) ps) a < 8)
      go false e k = (e, h, omega arith)
      go true e k = k (λ c l. next c l (eqb a c) refl)
        where
          next : (c : ℕ) → c < suc a → (b : Bool) → eqb a c ≡ b → some_endpoint (uses c) ps ≡ true
          next c l true r = rw (← (eqb-true a c r)) e
          next c l false r = h c (omega (arith, eqb-false a c r))

pub address_lowest : AddressLowest
address_lowest ps len s = search_lowest ps len 8 0 s refl (λ b l. absurd (omega arith))
