-- Trees of fields are written down as well-formed sheets, and well-formed sheets are read as trees.
use Prim.Native.Nat.{ℕ, zero, suc, ◌≤◌}
use mathlib.Core.Bool.{Bool, true, false, ◌&&◌, not, false≢true}
use mathlib.Core.List.{List, [], ◌∷◌, ◌++◌}
use mathlib.Core.Path.{◌≡◌, refl, sym, ap, ◌∙◌}
use lib.Dec.{ltb}
use lib.ListN.{length, take, drop, take-append-drop}
use lib.Seq.{take-append_seam, length-take-le}
use borrow.Author.Tests.{le-leb, not-true}
use Rattle.wire.specs.Choice.{pick}
use Rattle.wire.proofs.Choices.{both}
use Rattle.sheet.specs.Sheets.{is_group, has, is_field, are_fields, is_list, is_sheet}
use Rattle.sheet.specs.Trees.{Fields, none, leaf, group, written, are_bytes, is_tree, fields_behind, tree_of}
use Rattle.sheet.specs.TreeLaws.{TreesAreSheets, SheetsAreTrees}
use Rattle.sheet.proofs.Steps.{field_ends, field_inner, fields_of, sheet_says}

-- ---- what is asked of a field and of those behind it

pub record Asked (tag size new kind inside rest : Bool) : Type 0 where
  pub tag_fits : tag ≡ true
  pub size_fits : size ≡ true
  pub is_new : new ≡ true
  pub is-kind : kind ≡ true
  pub is-value : inside ≡ true
  pub go_on : rest ≡ true

-- as `is_tree` joins the six tests, of a leaf and of a group
asked : (a b c d e f : Bool) → ((a && (b && c)) && (d && (e && f))) ≡ true → Asked a b c d e f
asked a b c d e f h =
    let x = both (a && (b && c)) (d && (e && f)) h in
    let y = both a (b && c) x.0 in
    let z = both b c y.1 in
    let u = both d (e && f) x.1 in
    let w = both e f u.1 in
    record { tag_fits = y.0; size_fits = z.0; is_new = z.1; is-kind = u.0; is-value = w.0; go_on = w.1 }

module _ (d : ℕ) (tags : List ℕ) (t : ℕ) where
  abbrev pub LeafAsked : List ℕ → Fields → Type 0
  LeafAsked v more = Asked (ltb t 256) (ltb (length v) 256) (not (has tags t)) (not (is_group t)) (are_bytes v) (is_tree (suc d) (t ∷ tags) more)

  abbrev pub GroupAsked : Fields → Fields → Type 0
  GroupAsked inner more =
      Asked (ltb t 256) (ltb (length (written inner)) 256) (not (has tags t)) (is_group t) (is_tree d [] inner) (is_tree (suc d) (t ∷ tags) more)

  pub leaf_asked : (v : List ℕ) (more : Fields) → is_tree (suc d) tags (leaf t v more) ≡ true → LeafAsked v more
  unfolding is_tree
  leaf_asked v more h = asked _ _ _ _ _ _ h

  pub group_asked : (inner more : Fields) → is_tree (suc d) tags (group t inner more) ≡ true → GroupAsked inner more
  unfolding is_tree
  group_asked inner more h = asked _ _ _ _ _ _ h

-- with no list allowed there is no tree, not even an empty one
pub no_tree : (tags : List ℕ) (f : Fields) → is_tree 0 tags f ≡ true → ⊥
unfolding is_tree
no_tree tags f h = false≢true h

-- ---- the field with the value v, and s behind it

module _ (t : ℕ) (v s : List ℕ) where
  behind_of : (r : List ℕ → Fields) →
      fields_behind r 0 (t ∷ length v ∷ (v ++ s)) ≡ pick (is_group t) (group t (r v) (fields_behind r 0 s)) (leaf t v (fields_behind r 0 s))
  unfolding fields_behind
  behind_of r = rw (take-append_seam v s, skip v)
    where
      skip : (w : List ℕ) → fields_behind r (length w) (w ++ s) ≡ fields_behind r 0 s
      skip [] = refl
      skip (x ∷ w) = skip w

-- ---- trees are sheets

writes_list : (d : ℕ) (tags : List ℕ) (f : Fields) → is_tree (suc d) tags f ≡ true → are_fields (is_list d) tags 0 (written f) ≡ true
unfolding written are_fields is_list
writes_list d tags none h = refl
writes_list d tags (leaf t v more) h =
    let k = leaf_asked d tags t v more h in
    fields_of t v (written more) (is_list d) tags ∙ rw (k.is_new, not-true (is_group t) k.is-kind) (writes_list d (t ∷ tags) more k.go_on)
writes_list zero tags (group t inner more) h = absurd (no_tree [] inner (group_asked 0 tags t inner more h).is-value)
writes_list (suc d) tags (group t inner more) h =
    let k = group_asked (suc d) tags t inner more h in
    fields_of t (written inner) (written more) (is_list (suc d)) tags
    ∙ rw (k.is_new, k.is-kind, writes_list d [] inner k.is-value) (writes_list (suc d) (t ∷ tags) more k.go_on)

bytes-append : (xs ys : List ℕ) → are_bytes (xs ++ ys) ≡ (are_bytes xs && are_bytes ys)
unfolding are_bytes
bytes-append [] ys = refl
bytes-append (x ∷ xs) ys = rw (bytes-append xs ys) (and_assoc (ltb x 256) (are_bytes xs) (are_bytes ys))
  where
    and_assoc : (a b c : Bool) → (a && (b && c)) ≡ ((a && b) && c)
    and_assoc true b c = refl
    and_assoc false b c = refl

writes_bytes : (d : ℕ) (tags : List ℕ) (f : Fields) → is_tree d tags f ≡ true → are_bytes (written f) ≡ true
unfolding written are_bytes
writes_bytes zero tags f h = absurd (no_tree tags f h)
writes_bytes (suc d) tags none h = refl
writes_bytes (suc d) tags (leaf t v more) h =
    let k = leaf_asked d tags t v more h in
    rw (k.tag_fits, k.size_fits, bytes-append v (written more), k.is-value) (writes_bytes (suc d) (t ∷ tags) more k.go_on)
writes_bytes (suc d) tags (group t inner more) h =
    let k = group_asked d tags t inner more h in
    rw (k.tag_fits, k.size_fits, bytes-append (written inner) (written more), writes_bytes d [] inner k.is-value)
    (writes_bytes (suc d) (t ∷ tags) more k.go_on)

reads-back : (d : ℕ) (tags : List ℕ) (f : Fields) → is_tree (suc d) tags f ≡ true → fields_behind (tree_of d) 0 (written f) ≡ f
unfolding written fields_behind tree_of
reads-back d tags none h = refl
reads-back d tags (leaf t v more) h =
    let k = leaf_asked d tags t v more h in
    behind_of t v (written more) (tree_of d) ∙ rw (not-true (is_group t) k.is-kind, reads-back d (t ∷ tags) more k.go_on)
reads-back zero tags (group t inner more) h = absurd (no_tree [] inner (group_asked 0 tags t inner more h).is-value)
reads-back (suc d) tags (group t inner more) h =
    let k = group_asked (suc d) tags t inner more h in
    behind_of t (written inner) (written more) (tree_of (suc d))
    ∙ rw (k.is-kind, reads-back d [] inner k.is-value, reads-back (suc d) (t ∷ tags) more k.go_on)

pub trees_are_sheets : TreesAreSheets
unfolding is_sheet is_list tree_of
trees_are_sheets f h l =
    record {
      bytes = writes_bytes 5 [] f h;
      sheet = rw (le-leb (length (written f)) 4096 l) (writes_list 4 [] f h);
      back = reads-back 4 [] f h;
    }

-- ---- sheets are trees

abbrev Reads : ℕ → List ℕ → List ℕ → Fields → Type 0
Reads d tags s f = (is_tree d tags f ≡ true) × (written f ≡ s)

front_bytes : (n : ℕ) (s : List ℕ) → are_bytes s ≡ true → are_bytes (take n s) ≡ true
front_bytes n s b =
    (both (are_bytes (take n s)) (are_bytes (drop n s)) (sym (bytes-append (take n s) (drop n s)) ∙ ap are_bytes (take-append-drop n s) ∙ b)).0

-- a first field, where the fields behind it are read
module _ (d : ℕ) (tags : List ℕ) (t n : ℕ) (s : List ℕ) (more : Fields) (ht : ltb t 256 ≡ true) (hn : ltb n 256 ≡ true) where
  module _ (new : not (has tags t) ≡ true) (l : n ≤ length s) (rest : Reads (suc d) (t ∷ tags) (drop n s) more) where
    reads-leaf : is_group t ≡ false → are_bytes (take n s) ≡ true → Reads (suc d) tags (t ∷ n ∷ s) (leaf t (take n s) more)
    unfolding is_tree written
    reads-leaf g b = (
      rw (ht, length-take-le n s l, hn, new, g, b) rest.0,
      rw (rest.1, length-take-le n s l, take-append-drop n s),
    )

    reads-group : is_group t ≡ true → (inner : Fields) → Reads d [] (take n s) inner → Reads (suc d) tags (t ∷ n ∷ s) (group t inner more)
    unfolding is_tree written
    reads-group g inner i = (
      rw (ht, i.1, length-take-le n s l, hn, new, g, i.0) rest.0,
      rw (rest.1, i.1, length-take-le n s l, take-append-drop n s),
    )

-- fields, where the lists inside them are read
module _ (d : ℕ) (inside : (v : List ℕ) → is_list d v ≡ true → are_bytes v ≡ true → Reads d [] v (tree_of d v)) where
  reads_field : (tags : List ℕ) (t n : ℕ) (s : List ℕ) → ltb t 256 ≡ true → ltb n 256 ≡ true → are_bytes s ≡ true → not (has tags t) ≡ true →
      is_field (is_list d) t n s ≡ true → Reads (suc d) (t ∷ tags) (drop n s) (fields_behind (tree_of d) n s) →
      Reads (suc d) tags (t ∷ n ∷ s) (fields_behind (tree_of d) 0 (t ∷ n ∷ s))
  unfolding is_field fields_behind
  reads_field tags t n s ht hn b new f rest = go (is_group t) refl
    where
      l : n ≤ length s
      l = field_ends (is_list d) t n s f

      go : (g : Bool) → is_group t ≡ g → Reads (suc d) tags (t ∷ n ∷ s) (fields_behind (tree_of d) 0 (t ∷ n ∷ s))
      go true g = rw g (reads-group d tags t n s _ ht hn new l rest g _ (inside (take n s) (field_inner (is_list d) t n s f g) (front_bytes n s b)))
      go false g = rw g (reads-leaf d tags t n s _ ht hn new l rest g (front_bytes n s b))

  reads_fields : (tags : List ℕ) (n : ℕ) (s : List ℕ) → are_fields (is_list d) tags n s ≡ true → are_bytes s ≡ true →
      Reads (suc d) tags (drop n s) (fields_behind (tree_of d) n s)
  unfolding are_fields are_bytes fields_behind is_tree written
  reads_fields tags (suc n) [] h b = absurd (false≢true h)
  reads_fields tags (suc n) (x ∷ s) h b = reads_fields tags n s h (both (ltb x 256) _ b).1
  reads_fields tags zero [] h b = (refl, refl)
  reads_fields tags zero (t ∷ []) h b = absurd (false≢true h)
  reads_fields tags zero (t ∷ n ∷ s) h b =
      let x = both (not (has tags t)) _ h in
      let y = both (is_field (is_list d) t n s) _ x.1 in
      let u = both (ltb t 256) _ b in
      let w = both (ltb n 256) _ u.1 in
      reads_field tags t n s u.0 w.0 w.1 x.0 y.0 (reads_fields (t ∷ tags) n s y.1 w.1)

reads_list : (d : ℕ) (s : List ℕ) → is_list d s ≡ true → are_bytes s ≡ true → Reads d [] s (tree_of d s)
unfolding is_list tree_of
reads_list zero s h b = absurd (false≢true h)
reads_list (suc d) s h b = reads_fields d (reads_list d) [] 0 s h b

pub sheets_are_trees : SheetsAreTrees
sheets_are_trees s b h =
    let x = sheet_says s h in
    let r = reads_list 5 s x.1 b in
    record { short = x.0; tree = r.0; back = r.1 }
