-- A path leads to the value that it has in the tree, and a pick gives the hand-set tree's value first.
use Prim.Native.Nat.{ℕ, zero, suc, ◌+◌, ◌≤◌}
use mathlib.Core.Bool.{Bool, true, false, false≢true}
use mathlib.Core.List.{List, [], ◌∷◌, ◌++◌}
use mathlib.Core.Path.{◌≡◌, refl, sym, ap, ◌∙◌}
use native.Mathlib.Omega.{arith}
use lib.Dec.{leb, eqb}
use lib.ListN.{length}
use borrow.Author.Tests.{le-leb, not-true, eqb-true}
use Rattle.wire.specs.Choice.{pick}
use Rattle.wire.proofs.Choices.{both}
use Rattle.sheet.specs.Sheets.{is_group, Part, nowhere, part, find, onward, lead, place_of, through_groups, is_path}
use Rattle.sheet.specs.Trees.{Fields, none, leaf, group, written, is_tree, Value, missing, value, leaf_value, value_at}
use Rattle.sheet.specs.TreeLaws.{bytes_of, FindsValue, PathsReach, HandSetValueFirst}
use Rattle.sheet.proofs.Steps.{find_of}
use Rattle.sheet.proofs.Places.{found_inside}
use Rattle.sheet.proofs.Picks.{hand_set_first}
use Rattle.sheet.proofs.Trees.{leaf_asked, group_asked, no_tree, trees_are_sheets}

-- ---- the field with tag u and the value v, and s behind it

module _ (t b u : ℕ) (v s : List ℕ) where
  -- the value of the path t ∷ ts is x in v, and y in s
  leads_of : (ts : List ℕ) (x y : Value) → (eqb u t ≡ true → bytes_of (lead ts (b + 2) v) ≡ x) →
      bytes_of (lead (t ∷ ts) (b + 2 + length v) s) ≡ y → bytes_of (lead (t ∷ ts) b (u ∷ length v ∷ (v ++ s))) ≡ pick (eqb u t) x y
  unfolding lead
  leads_of ts x y here behind = rw (find_of u v s t b) (go (eqb u t) refl)
    where
      go : (e : Bool) → eqb u t ≡ e → bytes_of (onward (pick e (part (b + 2) v) (find t (b + 2 + length v) 0 s)) (lead ts)) ≡ pick e x y
      go true q = here q
      go false q = behind

-- ---- the value of a path

-- a path does not go on from a leaf
leads-leaf : (t b u : ℕ) (ts v : List ℕ) → is_group u ≡ false → through_groups (t ∷ ts) ≡ true → eqb u t ≡ true →
    bytes_of (lead ts b v) ≡ leaf_value ts v
unfolding lead through_groups
leads-leaf t b u [] v g h e = refl
leads-leaf t b u (w ∷ ts) v g h e = absurd (false≢true (sym g ∙ ap is_group (eqb-true u t e) ∙ (both (is_group t) _ h).0))

through_rest : (t : ℕ) (ts : List ℕ) → through_groups (t ∷ ts) ≡ true → through_groups ts ≡ true
unfolding through_groups
through_rest t [] h = refl
through_rest t (u ∷ ts) h = (both (is_group t) _ h).1

leads-value : (d : ℕ) (tags : List ℕ) (f : Fields) (path : List ℕ) (b : ℕ) → is_tree d tags f ≡ true → through_groups path ≡ true →
    bytes_of (lead path b (written f)) ≡ value_at f path
unfolding lead find written value_at
leads-value zero tags f path b h p = absurd (no_tree tags f h)
leads-value (suc d) tags none [] b h p = refl
leads-value (suc d) tags none (t ∷ ts) b h p = refl
leads-value (suc d) tags (leaf u v more) [] b h p = refl
leads-value (suc d) tags (leaf u v more) (t ∷ ts) b h p =
    let k = leaf_asked d tags u v more h in
    leads_of t b u v (written more) ts _ _ (leads-leaf t (b + 2) u ts v (not-true (is_group u) k.is-kind) p)
    (leads-value (suc d) (u ∷ tags) more (t ∷ ts) (b + 2 + length v) k.go_on p)
leads-value (suc d) tags (group u inner more) [] b h p = refl
leads-value (suc d) tags (group u inner more) (t ∷ ts) b h p =
    let k = group_asked d tags u inner more h in
    leads_of t b u (written inner) (written more) ts _ _ (λ e. leads-value d [] inner ts (b + 2) k.is-value (through_rest t ts p))
    (leads-value (suc d) (u ∷ tags) more (t ∷ ts) (b + 2 + length (written inner)) k.go_on p)

pub finds_value : FindsValue
unfolding place_of
finds_value f path h p = leads-value 5 [] f path 0 h p

missing≢value : {v : List ℕ} → missing ≡ value v → ⊥
missing≢value e = let z : ◌≡◌ {A = ℕ} 0 1 = cc in absurd (omega arith)

-- a path that a tree has: it is no longer than the tree is deep, and goes through groups
abbrev Reaches : ℕ → ℕ → List ℕ → Type 0
Reaches d t ts = (length ts + 1 ≤ d) × (through_groups (t ∷ ts) ≡ true)

reaches : (d : ℕ) (tags : List ℕ) (f : Fields) (t : ℕ) (ts v : List ℕ) → is_tree d tags f ≡ true → value_at f (t ∷ ts) ≡ value v → Reaches d t ts
unfolding value_at through_groups
reaches zero tags f t ts v h e = absurd (no_tree tags f h)
reaches (suc d) tags none t ts v h e = absurd (missing≢value e)
reaches (suc d) tags (leaf u w more) t ts v h e =
    go (eqb u t) ts e (λ ts'. reaches (suc d) (u ∷ tags) more t ts' v (leaf_asked d tags u w more h).go_on)
  where
    go : (b : Bool) (ts : List ℕ) → pick b (leaf_value ts w) (value_at more (t ∷ ts)) ≡ value v →
        ((ts : List ℕ) → value_at more (t ∷ ts) ≡ value v → Reaches (suc d) t ts) → Reaches (suc d) t ts
    go true [] q rest = (omega arith, refl)
    go true (x ∷ xs) q rest = absurd (missing≢value q)
    go false ts q rest = rest ts q
reaches (suc d) tags (group u inner more) t ts v h e =
    let k = group_asked d tags u inner more h in
    go (eqb u t) refl ts e k.is-kind (λ t' ts'. reaches d [] inner t' ts' v k.is-value) (λ ts'. reaches (suc d) (u ∷ tags) more t ts' v k.go_on)
  where
    go : (b : Bool) → eqb u t ≡ b → (ts : List ℕ) → pick b (value_at inner ts) (value_at more (t ∷ ts)) ≡ value v → is_group u ≡ true →
        ((t : ℕ) (ts : List ℕ) → value_at inner (t ∷ ts) ≡ value v → Reaches d t ts) →
        ((ts : List ℕ) → value_at more (t ∷ ts) ≡ value v → Reaches (suc d) t ts) → Reaches (suc d) t ts
    go true i [] q g inside rest = (omega arith, refl)
    go true i (x ∷ xs) q g inside rest =
        let r = inside x xs q in
        (omega (arith, r.0), rw (sym (ap is_group (eqb-true u t i)) ∙ g) r.1)
    go false i ts q g inside rest = rest ts q

pub paths_reach : PathsReach
unfolding is_path
paths_reach f t ts v h e =
    let r = reaches 5 [] f t ts v h e in
    rw (le-leb 1 (suc (length ts)) (omega arith), le-leb (suc (length ts)) 5 (omega (arith, r.0))) r.1

-- ---- the hand-set tree comes first

module _ (f : Fields) (path : List ℕ) (h : is_tree 5 [] f ≡ true) (p : through_groups path ≡ true) where
  placed : (v : List ℕ) → value_at f path ≡ value v → (b : ℕ) × (place_of (written f) path ≡ part b v)
  placed v e = go (place_of (written f) path) refl (finds_value f path h p ∙ e)
    where
      go : (q : Part) → place_of (written f) path ≡ q → bytes_of q ≡ value v → (b : ℕ) × (place_of (written f) path ≡ part b v)
      go nowhere i j = absurd (missing≢value j)
      go (part b w) i j =
          let z : w ≡ v = cc in
          (b, rw z at i)

  unplaced : value_at f path ≡ missing → place_of (written f) path ≡ nowhere
  unplaced e = go (place_of (written f) path) refl (finds_value f path h p ∙ e)
    where
      go : (q : Part) → place_of (written f) path ≡ q → bytes_of q ≡ missing → place_of (written f) path ≡ nowhere
      go nowhere i j = i
      go (part b w) i j = absurd (missing≢value (sym j))

path_through : (path : List ℕ) → is_path path ≡ true → through_groups path ≡ true
unfolding is_path
path_through path h = (both (leb (length path) 5) _ (both (leb 1 (length path)) _ h).1).1

pub hand_set_value_first : HandSetValueFirst
hand_set_value_first hand incoming path th ti lh li p =
    let g = path_through path p in
    let w = hand_set_first (written hand) (written incoming) path p (trees_are_sheets hand th lh).sheet (trees_are_sheets incoming ti li).sheet in
    record {
      by_hand = λ v e.
          let x = placed hand path th g v e in
          rw (w.by_hand x.0 v x.1) (refl, (found_inside (written hand) path x.0 v x.1).1);
      else_incoming = λ v n e.
          let x = placed incoming path ti g v e in
          rw (w.else_incoming x.0 v (unplaced hand path th g n) x.1) (refl, (found_inside (written incoming) path x.0 v x.1).1);
      else_30 = λ n m. w.else_30 (unplaced hand path th g n) (unplaced incoming path ti g m);
    }
