-- Sheets as trees of fields (docs/RULES.md, H): how a tree is written down, how it is read back, and the value that a path has in it.
use Rattle.std.specs.Prelude.{ℕ, zero, suc, Bool, true, false, ◌&&◌, not, List, [], ◌∷◌, ◌++◌, ltb, eqb, length, take}
use Rattle.wire.specs.Choice.{pick}
use Rattle.sheet.specs.Sheets.{is_group, has}

-- A list of fields: none, or a first one, a leaf with its bytes or a group with its fields, and those behind it.
pub data Fields : Type 0 where
  none : Fields
  leaf : ℕ → List ℕ → Fields → Fields
  group : ℕ → Fields → Fields → Fields

-- ---- written down

unfoldable pub written : Fields → List ℕ
written none = []
written (leaf t v more) = t ∷ length v ∷ v ++ written more
written (group t inner more) = t ∷ length (written inner) ∷ written inner ++ written more

unfoldable pub are_bytes : List ℕ → Bool
are_bytes [] = true
are_bytes (x ∷ xs) = ltb x 256 && are_bytes xs

-- whether a field of this list can have the tag t and n bytes
abbrev pub can_be : List ℕ → ℕ → ℕ → Bool
can_be tags t n = ltb t 256 && (ltb n 256 && not (has tags t))

-- whether it is in rule: tags differ from each other and from these, tag and length fit a byte each, at most d lists are inside each other
unfoldable pub is_tree : ℕ → List ℕ → Fields → Bool
is_tree zero tags f = false
is_tree (suc d) tags none = true
is_tree (suc d) tags (leaf t v more) = can_be tags t (length v) && (not (is_group t) && (are_bytes v && is_tree (suc d) (t ∷ tags) more))
is_tree (suc d) tags (group t inner more) =
    can_be tags t (length (written inner)) && (is_group t && (is_tree d [] inner && is_tree (suc d) (t ∷ tags) more))

-- ---- read back

-- the fields behind the n bytes of a value, where `inner` reads a group's value
unfoldable pub fields_behind : (List ℕ → Fields) → ℕ → List ℕ → Fields
fields_behind inner (suc n) [] = none
fields_behind inner (suc n) (x ∷ s) = fields_behind inner n s
fields_behind inner zero [] = none
fields_behind inner zero (t ∷ []) = none
fields_behind inner zero (t ∷ n ∷ s) =
    pick (is_group t) (group t (inner (take n s)) (fields_behind inner n s)) (leaf t (take n s) (fields_behind inner n s))

-- the tree of a list with at most d lists inside each other
unfoldable pub tree_of : ℕ → List ℕ → Fields
tree_of zero s = none
tree_of (suc d) s = fields_behind (tree_of d) 0 s

-- ---- the value of a path

-- A value, or none.
pub data Value : Type 0 where
  missing : Value
  value : List ℕ → Value

-- a leaf's value, where the path ends in it
abbrev pub leaf_value : List ℕ → List ℕ → Value
leaf_value [] v = value v
leaf_value (t ∷ ts) v = missing

-- an empty path has the whole list
unfoldable pub value_at : Fields → List ℕ → Value
value_at f [] = value (written f)
value_at none (t ∷ ts) = missing
value_at (leaf u v more) (t ∷ ts) = pick (eqb u t) (leaf_value ts v) (value_at more (t ∷ ts))
value_at (group u inner more) (t ∷ ts) = pick (eqb u t) (value_at inner ts) (value_at more (t ∷ ts))
