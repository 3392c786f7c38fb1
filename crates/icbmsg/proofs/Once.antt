-- Names, or addresses, each had once: what keeps it where an endpoint or a stored binding changes. And searches that end nowhere.
use Prim.Native.Nat.{ℕ, zero, suc, ◌+◌, ◌≤◌, ◌<◌}
use mathlib.Core.Bool.{Bool, true, false, false≢true}
use mathlib.Core.Path.{◌≡◌, refl, sym, ◌∙◌}
use mathlib.Core.Logic.{◌≢◌}
use mathlib.Core.List.{List}
use native.Mathlib.Omega.{arith}
use lib.Dec.{ltb, eqb}
use lib.ListN.{length, get_or, set, get_or-eq_default}
use lib.Seq.{get_or-set_same, get_or-set_other}
use borrow.Author.Tests.{eqb-true, eqb-false, ltb-true, ltb-false}
use Rattle.wire.specs.Choice.{pick}
use Rattle.blocks.specs.Search.{Search, nowhere, found_at, is_found, first_from}
use Rattle.endpoints.specs.Endpoints.{no_endpoint, no_binding}
use Rattle.endpoints.specs.declared.Endpoint.{Endpoint}
use Rattle.endpoints.specs.declared.Binding.{Binding}
use Rattle.icbmsg.specs.WellFormed.{binding_of, IsKept}
use Rattle.icbmsg.specs.Names.{endpoint_of, Once}
use Rattle.icbmsg.proofs.Separate.{Is, that, another, is}

-- ---- searches that end nowhere

pub found_nowhere : {j : ℕ} → found_at j ≡ nowhere → ⊥
found_nowhere h = let z : ◌≡◌ {A = ℕ} 0 1 = cc in omega arith

pub found-same : {i j : ℕ} → found_at i ≡ found_at j → j ≡ i
found-same h = cc

none_first {ℓ} : {A : Type ℓ} (f : A → Bool) (d : A) (l : List A) (n i : ℕ) → first_from f d l n i ≡ nowhere → (j : ℕ) → i ≤ j → j < i + n → f (get_or l j d) ≡ false
none_first f d l zero i h j p r = absurd (omega arith)
none_first f d l (suc n) i h j p r = go (f (get_or l i d)) refl h (λ k q. none_first f d l n (suc i) k j q (omega arith))
  where
    go : (b : Bool) → f (get_or l i d) ≡ b → pick b (found_at i) (first_from f d l n (suc i)) ≡ nowhere → (first_from f d l n (suc i) ≡ nowhere → i < j → f (get_or l j d) ≡ false) → f (get_or l j d) ≡ false
    go true q h k = absurd (found_nowhere h)
    go false q h k = next (eqb i j) refl
      where
        next : (b : Bool) → eqb i j ≡ b → f (get_or l j d) ≡ false
        next true z = rw (eqb-true i j z) at q
        next false z = k h (omega (arith, eqb-false i j z))

-- of eight, where what stands beyond them does not pass, none passes
pub none_passes {ℓ} : {A : Type ℓ} (f : A → Bool) (d : A) (l : List A) → length l ≡ 8 → f d ≡ false → first_from f d l 8 0 ≡ nowhere → (j : ℕ) → f (get_or l j d) ≡ true → ⊥
none_passes f d l len out h j t = false≢true (sym (go (ltb j 8) refl) ∙ t)
  where
    go : (b : Bool) → ltb j 8 ≡ b → f (get_or l j d) ≡ false
    go true q = none_first f d l 8 0 h j (omega arith) (ltb-true j 8 q)
    go false q = rw (get_or-eq_default l d {n = j} (omega (arith, ltb-false j 8 q))) out

pub not_found : (q : Search) → is_found q ≡ false → q ≡ nowhere
not_found nowhere h = refl
not_found (found_at i) h = absurd (false≢true (sym h))

-- ---- a list with one element changed

-- element j where element i became x
data Placed {X : Type 0} (d : X) (l : List X) (i : ℕ) (x : X) : ℕ → Type 0 where
  new : get_or (set l i x) i d ≡ x → Placed d l i x i
  old : {j : ℕ} → j ≢ i → get_or (set l i x) j d ≡ get_or l j d → Placed d l i x j

placed : {X : Type 0} (d : X) (l : List X) (i : ℕ) (x : X) → i < length l → (j : ℕ) → Placed d l i x j
placed d l i x h j = go (is i j)
  where
    go : {k : ℕ} → Is i k → Placed d l i x k
    go that = new (get_or-set_same l i x d h)
    go {k} (another n) = old n (get_or-set_other l i k x d n)

-- no two that pass have the same f
abbrev Single : {X A : Type 0} → X → (X → Bool) → (X → A) → List X → Type 0
Single d test f l = (i j : ℕ) → test (get_or l i d) ≡ true → test (get_or l j d) ≡ true → f (get_or l i d) ≡ f (get_or l j d) → i ≡ j

-- x may stand at i: it does not pass, or no other that passes has the same
abbrev Differs : {X A : Type 0} → X → (X → Bool) → (X → A) → List X → ℕ → X → Type 0
Differs d test f l i x = test x ≡ true → (j : ℕ) → j ≢ i → test (get_or l j d) ≡ true → f (get_or l j d) ≡ f x → ⊥

single-set : {X A : Type 0} (d : X) (test : X → Bool) (f : X → A) (l : List X) (i : ℕ) (x : X) → i < length l → Single d test f l → Differs d test f l i x → Single d test f (set l i x)
single-set d test f l i x n o c j k = go (placed d l i x n j) (placed d l i x n k)
  where
    go : {j k : ℕ} → Placed d l i x j → Placed d l i x k → test (get_or (set l i x) j d) ≡ true → test (get_or (set l i x) k d) ≡ true →
        f (get_or (set l i x) j d) ≡ f (get_or (set l i x) k d) → j ≡ k
    go (new e) (new e') h h' q = refl
    go {k = k} (new e) (old n e') h h' q = absurd (c (rw e at h) k n (rw e' at h') (sym (rw (e, e') at q)))
    go {j = j} (old n e) (new e') h h' q = absurd (c (rw e' at h') j n (rw e at h) (rw (e, e') at q))
    go {j} {k} (old n e) (old n' e') h h' q = o j k (rw e at h) (rw e' at h') (rw (e, e') at q)

-- what holds of each element, and of the new one
pub each_set : {X : Type 0} (d : X) (P : X → Type 0) (l : List X) (i : ℕ) (x : X) → i < length l → ((j : ℕ) → P (get_or l j d)) → P x → (j : ℕ) → P (get_or (set l i x) j d)
each_set d P l i x n h p j = go (placed d l i x n j)
  where
    go : {k : ℕ} → Placed d l i x k → P (get_or (set l i x) k d)
    go (new e) = rw e p
    go {k} (old _ e) = rw e (h k)

-- ---- names, or addresses, once: changes that keep it

module _ {A : Type 0} {test : Endpoint → Bool} {f : Endpoint → A} {g : Binding → A} {ps : List Endpoint} {bs : List Binding} (o : Once test f g ps bs) where
  -- endpoint i becomes p
  pub placed_once : (i : ℕ) (p : Endpoint) → i < length ps → Differs no_endpoint test f ps i p → (test p ≡ true → (j : ℕ) → IsKept bs j → f p ≡ g (binding_of bs j) → ⊥) →
      Once test f g (set ps i p) bs
  placed_once i p n c c' =
      record {
        endpoints = single-set no_endpoint test f ps i p n o.endpoints c;
        bindings = o.bindings;
        apart = λ j k. go (placed no_endpoint ps i p n j) k;
      }
    where
      go : {j : ℕ} → Placed no_endpoint ps i p j → (k : ℕ) → test (endpoint_of (set ps i p) j) ≡ true → IsKept bs k → f (endpoint_of (set ps i p) j) ≡ g (binding_of bs k) → ⊥
      go (new e) k h l q = c' (rw e at h) k l (rw e at q)
      go {j} (old n e) k h l q = o.apart j k (rw e at h) l (rw e at q)

  -- an endpoint with the same in its place
  pub changed_once : (i : ℕ) (p : Endpoint) → i < length ps → test (endpoint_of ps i) ≡ true → f p ≡ f (endpoint_of ps i) → Once test f g (set ps i p) bs
  changed_once i p n t q =
      placed_once i p n (λ _ j d h r. d (o.endpoints j i h t (r ∙ q))) (λ _ j l r. o.apart i j t l (sym q ∙ r))

  -- binding j becomes b
  pub stored_once : (j : ℕ) (b : Binding) → j < length bs → Differs no_binding (λ x. x.stored) g bs j b → (b.stored ≡ true → (i : ℕ) → test (endpoint_of ps i) ≡ true → f (endpoint_of ps i) ≡ g b → ⊥) →
      Once test f g ps (set bs j b)
  stored_once j b n c c' =
      record {
        endpoints = o.endpoints;
        bindings = single-set no_binding (λ x. x.stored) g bs j b n o.bindings c;
        apart = λ i k. go i (placed no_binding bs j b n k);
      }
    where
      go : (i : ℕ) {k : ℕ} → Placed no_binding bs j b k → test (endpoint_of ps i) ≡ true → IsKept (set bs j b) k → f (endpoint_of ps i) ≡ g (binding_of (set bs j b) k) → ⊥
      go i (new e) h l q = c' (rw e at l) i h (rw e at q)
      go i {k} (old n e) h l q = o.apart i k h (rw e at l) (rw e at q)

-- endpoint i takes over what stored binding j has
pub taken_over : {A : Type 0} {test : Endpoint → Bool} {f : Endpoint → A} {g : Binding → A} {ps : List Endpoint} {bs : List Binding} → Once test f g ps bs →
    (i j : ℕ) (p : Endpoint) → i < length ps → j < length bs → IsKept bs j → f p ≡ g (binding_of bs j) → Once test f g (set ps i p) (set bs j no_binding)
taken_over {test = test} {f} {g} {ps} {bs} o i j p n m kept q =
    placed_once (stored_once o j no_binding m (λ h. absurd (false≢true h)) (λ h. absurd (false≢true h))) i p n
    (λ _ k d h r. o.apart k j h kept (r ∙ q)) (λ _ k l r. go (placed no_binding bs j no_binding m k) l r)
  where
    go : {k : ℕ} → Placed no_binding bs j no_binding k → IsKept (set bs j no_binding) k → f p ≡ g (binding_of (set bs j no_binding) k) → ⊥
    go (new e) l r = false≢true (rw e at l)
    go {k} (old d e) l r = d (o.bindings k j (rw e at l) kept (sym (rw e at r) ∙ q))
