-- Sheets (docs/RULES.md, H): bytes that are a list of fields, each "tag byte, length byte, value".
use Rattle.std.specs.Prelude.{ℕ, zero, suc, ◌+◌, Bool, true, false, ◌&&◌, ◌||◌, not, List, [], ◌∷◌, leb, eqb, length, take}
use Rattle.wire.specs.Choice.{pick}

-- "tags from 0x80 are groups"
abbrev pub is_group : ℕ → Bool
is_group t = leb 128 t

-- whether t is among these tags
unfoldable pub has : List ℕ → ℕ → Bool
has [] t = false
has (u ∷ us) t = eqb u t || has us t

-- whether a field with tag t and length n is in rule, where s is what follows these two bytes in its list: its value ends by the list's end, and
-- is a list if the field is a group
unfoldable pub is_field : (List ℕ → Bool) → ℕ → ℕ → List ℕ → Bool
is_field isInner t n s = leb n (length s) && pick (is_group t) (isInner (take n s)) true

-- whether s is n bytes of a value, and then fields whose tags differ from each other and from these ("tags in one list differ")
-- (its first line decides nothing: a value that s does not hold, is_field has refused before)
unfoldable pub are_fields : (List ℕ → Bool) → List ℕ → ℕ → List ℕ → Bool
are_fields isInner tags (suc n) [] = false
are_fields isInner tags (suc n) (x ∷ s) = are_fields isInner tags n s
are_fields isInner tags zero [] = true
are_fields isInner tags zero (t ∷ []) = false
are_fields isInner tags zero (t ∷ n ∷ s) = not (has tags t) && (is_field isInner t n s && are_fields isInner (t ∷ tags) n s)

-- whether it is a list of fields, with at most d lists inside each other
unfoldable pub is_list : ℕ → List ℕ → Bool
is_list zero s = false
is_list (suc d) s = are_fields (is_list d) [] 0 s

-- "at most 4,096 bytes", "at most four deep below the sheet's own"
unfoldable pub is_sheet : List ℕ → Bool
is_sheet s = leb (length s) 4096 && is_list 5 s

-- A part of a sheet: where it begins, and its bytes.
pub data Part : Type 0 where
  nowhere : Part
  part : ℕ → List ℕ → Part

-- the n bytes at begin b, if s has so many
abbrev pub cut : ℕ → ℕ → List ℕ → Part
cut b n s = pick (leb n (length s)) (part b (take n s)) nowhere

-- the value of the first field with tag t, where s, which begins at b, is n bytes of a value and then fields
unfoldable pub find : ℕ → ℕ → ℕ → List ℕ → Part
find t b (suc n) [] = nowhere
find t b (suc n) (x ∷ s) = find t (b + 1) n s
find t b zero [] = nowhere
find t b zero (u ∷ []) = nowhere
find t b zero (u ∷ n ∷ s) = pick (eqb u t) (cut (b + 2) n s) (find t (b + 2) n s)

-- goes on from a part, if there is one
abbrev pub onward : Part → (ℕ → List ℕ → Part) → Part
onward nowhere f = nowhere
onward (part b v) f = f b v

-- where a path leads in a list that begins at b; an empty one leads to the list
unfoldable pub lead : List ℕ → ℕ → List ℕ → Part
lead [] b s = part b s
lead (t ∷ ts) b s = onward (find t b 0 s) (lead ts)

-- where a path leads in a sheet
unfoldable pub place_of : List ℕ → List ℕ → Part
place_of s path = lead path 0 s

-- all tags but the last are groups
unfoldable pub through_groups : List ℕ → Bool
through_groups [] = true
through_groups (t ∷ []) = true
through_groups (t ∷ u ∷ us) = is_group t && through_groups (u ∷ us)

-- "a path of one to five tags", not "passing through a tag below 0x80"
unfoldable pub is_path : List ℕ → Bool
is_path path = leb 1 (length path) && (leb (length path) 5 && through_groups path)
