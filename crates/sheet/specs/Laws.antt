-- What holds of every sheet and every pick.
use Rattle.std.specs.Prelude.{ℕ, zero, suc, ◌+◌, ◌-◌, ◌≤◌, Bool, true, false, ◌&&◌, List, [], ◌∷◌, ◌++◌, ◌≡◌, ◌≢◌, length, take, drop}
use Rattle.sheet.specs.Sheets.{nowhere, part, is_group, is_list, is_sheet, through_groups, is_path, place_of}
use Rattle.sheet.specs.Picks.{Outcome, found, refused, chosen, pick_of}

-- ---- the hand-set sheet comes first

-- What a crew can count on, with two well-formed sheets and a path in rule. Where the hand-set sheet has the path, the answer is that value of it,
-- whatever else the incoming sheet holds. Else, where the incoming sheet has the path, it is that value. Else it is 30.
pub record HandSetWins (hand incoming path : List ℕ) : Type 0 where
  pub by_hand : (b : ℕ) (v : List ℕ) → place_of hand path ≡ part b v → pick_of hand incoming path ≡ found false b v
  pub else_incoming : (b : ℕ) (v : List ℕ) → place_of hand path ≡ nowhere → place_of incoming path ≡ part b v →
      pick_of hand incoming path ≡ found true b v
  pub else_30 : place_of hand path ≡ nowhere → place_of incoming path ≡ nowhere → pick_of hand incoming path ≡ refused 30

abbrev pub HandSetFirst : Type 0
HandSetFirst =
    (hand incoming path : List ℕ) → is_path path ≡ true → is_sheet hand ≡ true → is_sheet incoming ≡ true → HandSetWins hand incoming path

-- What else there is: the first check that fails. Both sheets are judged before the path is looked for.
pub record FirstCheck (hand incoming path : List ℕ) : Type 0 where
  pub bad_path : is_path path ≡ false → pick_of hand incoming path ≡ refused 27
  pub bad_hand : is_path path ≡ true → is_sheet hand ≡ false → pick_of hand incoming path ≡ refused 28
  pub bad_incoming : is_path path ≡ true → is_sheet hand ≡ true → is_sheet incoming ≡ false → pick_of hand incoming path ≡ refused 29

abbrev pub ChecksInOrder : Type 0
ChecksInOrder = (hand incoming path : List ℕ) → FirstCheck hand incoming path

-- what is not accepted has the empty part
abbrev pub RefusalsEmpty : Type 0
RefusalsEmpty = (hand incoming path : List ℕ) → (pick_of hand incoming path).number ≢ 0 → pick_of hand incoming path ≡ refused (pick_of hand incoming path).number

-- what is given lies inside its sheet, so that begin and size are small
abbrev pub GivenInside : Type 0
GivenInside =
    (hand incoming path : List ℕ) →
    let o : Outcome = pick_of hand incoming path in (o.begin + o.size ≤ length (chosen o hand incoming)) × (o.begin + o.size ≤ 4096)

-- ---- what is found

-- it lies inside its sheet, and its bytes are those of the sheet
abbrev pub FoundInside : Type 0
FoundInside = (s path : List ℕ) (b : ℕ) (v : List ℕ) → place_of s path ≡ part b v → (b + length v ≤ length s) × (take (length v) (drop b s) ≡ v)

-- the bytes v begin at b of the list s, which itself begins at a; the tag t and the length of v stand before them
pub record Framed (t a : ℕ) (s : List ℕ) (b : ℕ) (v : List ℕ) : Type 0 where
  pub before : List ℕ
  pub after : List ℕ
  pub bytes : s ≡ before ++ t ∷ length v ∷ v ++ after
  pub begin : b ≡ a + length before + 2

-- it is framed by the path's last tag and by its own length byte
abbrev pub FoundFramed : Type 0
FoundFramed = (s tags : List ℕ) (t b : ℕ) (v : List ℕ) → place_of s (tags ++ t ∷ []) ≡ part b v → Framed t 0 s b v

-- ---- a path leads to at most one place

-- whether what stands behind the n bytes of a value are whole fields
unfoldable pub are_whole : ℕ → List ℕ → Bool
are_whole (suc n) [] = false
are_whole (suc n) (x ∷ s) = are_whole n s
are_whole zero [] = true
are_whole zero (t ∷ []) = false
are_whole zero (t ∷ n ∷ s) = are_whole n s

-- a field of the list s that begins at a, whichever it is: whole fields stand before it. From its value on, `goes_on` says the rest.
pub record Field (t a : ℕ) (s : List ℕ) (goes_on : ℕ → List ℕ → Type 0) : Type 0 where
  pub begin : ℕ
  pub bytes : List ℕ
  pub frame : Framed t a s begin bytes
  pub whole : are_whole 0 frame.before ≡ true
  pub rest : goes_on begin bytes

-- the path leads from the list s, which begins at a, to the bytes v at b: from each of its tags to some field that has it
abbrev pub Leads : List ℕ → ℕ → List ℕ → ℕ → List ℕ → Type 0
Leads [] a s b v = (a ≡ b) × (s ≡ v)
Leads (t ∷ ts) a s b v = Field t a s (λ c w. Leads ts c w b v)

-- to the place that is found, and in a well-formed sheet to no other
pub record OnePlace : Type 0 where
  pub leads : (s path : List ℕ) (b : ℕ) (v : List ℕ) → place_of s path ≡ part b v → Leads path 0 s b v
  pub only : (s path : List ℕ) (b : ℕ) (v : List ℕ) → is_sheet s ≡ true → through_groups path ≡ true → Leads path 0 s b v → place_of s path ≡ part b v

-- ---- groups

unfoldable pub all_groups : List ℕ → Bool
all_groups [] = true
all_groups (t ∷ ts) = is_group t && all_groups ts

-- in a well-formed sheet a path of groups has at most four tags, and leads to a list of fields
abbrev pub GroupsAreLists : Type 0
GroupsAreLists =
    (s path : List ℕ) (b : ℕ) (v : List ℕ) →
    is_sheet s ≡ true →
    all_groups path ≡ true →
    place_of s path ≡ part b v →
    (length path ≤ 4) × (is_list (5 - length path) v ≡ true)
