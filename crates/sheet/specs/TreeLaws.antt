-- Well-formed sheets are just what trees of fields are written down as, and a pick gives what the trees have.
use Rattle.std.specs.Prelude.{ℕ, ◌≤◌, true, List, [], ◌∷◌, ◌≡◌, length}
use Rattle.sheet.specs.Sheets.{Part, nowhere, part, is_sheet, through_groups, is_path, place_of}
use Rattle.sheet.specs.Picks.{Outcome, refused, part_of, pick_of}
use Rattle.sheet.specs.Trees.{Fields, written, are_bytes, is_tree, tree_of, Value, missing, value, value_at}

-- every tree in rule that is short enough is written down as a well-formed sheet, and read back
pub record WritesSheet (f : Fields) : Type 0 where
  pub bytes : are_bytes (written f) ≡ true
  pub sheet : is_sheet (written f) ≡ true
  pub back : tree_of 5 (written f) ≡ f

abbrev pub TreesAreSheets : Type 0
TreesAreSheets = (f : Fields) → is_tree 5 [] f ≡ true → length (written f) ≤ 4096 → WritesSheet f

-- every well-formed sheet is short enough, is read as a tree in rule, and written down as it was
pub record ReadsTree (s : List ℕ) : Type 0 where
  pub short : length s ≤ 4096
  pub tree : is_tree 5 [] (tree_of 5 s) ≡ true
  pub back : written (tree_of 5 s) ≡ s

abbrev pub SheetsAreTrees : Type 0
SheetsAreTrees = (s : List ℕ) → are_bytes s ≡ true → is_sheet s ≡ true → ReadsTree s

-- a path leads to the value that it has in the tree
abbrev pub bytes_of : Part → Value
bytes_of nowhere = missing
bytes_of (part b v) = value v

abbrev pub FindsValue : Type 0
FindsValue = (f : Fields) (path : List ℕ) → is_tree 5 [] f ≡ true → through_groups path ≡ true → bytes_of (place_of (written f) path) ≡ value_at f path

-- every value of a tree in rule has a path in rule
abbrev pub PathsReach : Type 0
PathsReach = (f : Fields) (t : ℕ) (ts v : List ℕ) → is_tree 5 [] f ≡ true → value_at f (t ∷ ts) ≡ value v → is_path (t ∷ ts) ≡ true

-- The hand-set sheet comes first, in trees: the part that is picked is the hand-set tree's value, where it has one, else the incoming tree's.
abbrev pub picked : Fields → Fields → List ℕ → Outcome
picked hand incoming path = pick_of (written hand) (written incoming) path

-- a pick that is accepted, and gives v
abbrev pub Gives : Fields → Fields → List ℕ → List ℕ → Type 0
Gives hand incoming path v =
    ((picked hand incoming path).number ≡ 0) × (part_of (picked hand incoming path) (written hand) (written incoming) ≡ v)

pub record PicksValue (hand incoming : Fields) (path : List ℕ) : Type 0 where
  pub by_hand : (v : List ℕ) → value_at hand path ≡ value v → Gives hand incoming path v
  pub else_incoming : (v : List ℕ) → value_at hand path ≡ missing → value_at incoming path ≡ value v → Gives hand incoming path v
  pub else_30 : value_at hand path ≡ missing → value_at incoming path ≡ missing → picked hand incoming path ≡ refused 30

abbrev pub HandSetValueFirst : Type 0
HandSetValueFirst =
    (hand incoming : Fields) (path : List ℕ) →
    is_tree 5 [] hand ≡ true →
    is_tree 5 [] incoming ≡ true →
    length (written hand) ≤ 4096 →
    length (written incoming) ≤ 4096 →
    is_path path ≡ true →
    PicksValue hand incoming path
