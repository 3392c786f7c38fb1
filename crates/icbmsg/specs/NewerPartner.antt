-- D3: a newer partner changes nothing (docs/RULES.md, N).
use Rattle.std.specs.Prelude.{ℕ, ◌+◌, ◌-◌, ◌*◌, ◌≤◌, ◌<◌, true, ◌≡◌, List, [], ◌∷◌, ◌++◌, length, get_or}
use Rattle.wire.specs.Choice.{pick}
use Rattle.wire.specs.Reads.{Agree}
use Rattle.icbmsg.specs.Regions.{block_count, block_size}
use Rattle.icbmsg.specs.Outcome.{Outcome, refused}
use Rattle.blocks.specs.Tables.{blocks_for}
use Rattle.icbmsg.specs.Ends.{is_open}
use Rattle.icbmsg.specs.Opening.{opening}
use Rattle.icbmsg.specs.declared.Opening.{Opening}
use Rattle.icbmsg.specs.Arrivals.{decode}
use Rattle.icbmsg.specs.declared.Control.TheVariants.{BindingSent}
use Rattle.icbmsg.specs.Calls.{Call, pull, arrival, view, step, run}
use Rattle.icbmsg.specs.Reading.{reading, size_in, content_at}
use Rattle.icbmsg.specs.End.{End}

-- N3, N4: a binding message in block b that fits, zero-ended at byte zero_at, and the same with bytes after it: K grows, its
-- blocks do not, and its own bytes stay.
pub record Grown (e : End) (b : ℕ) (r r' : List ℕ) : Type 0 where
  pub lent : length r ≡ e.rx.length
  pub lent' : length r' ≡ e.rx.length
  pub range : b < block_count e.rx
  pub fitting : size_in e b r + 4 ≤ (block_count e.rx - b) * block_size e.rx
  pub zero_at : ℕ
  pub inside : zero_at < size_in e b r
  pub early : zero_at < 32
  pub ended : get_or r (content_at e b + zero_at) 0 ≡ 0
  pub larger : size_in e b r ≤ size_in e b r'
  pub blocks : blocks_for (block_size e.rx) (size_in e b r') ≡ blocks_for (block_size e.rx) (size_in e b r)
  pub stays : (i : ℕ) → i < size_in e b r → get_or r' (content_at e b + i) 0 ≡ get_or r (content_at e b + i) 0

-- N3: a call on the end e and the same call from a newer partner. Any number of changes at once is `both`.
pub data Change (e : End) : Call → Call → Type 0 where
  unchanged : {c : Call} → Change e c c
  longer : {rx m : List ℕ} (more : List ℕ) → 3 ≤ length m → Change e (arrival rx m) (arrival rx (m ++ more))
  grown : {r r' m : List ℕ} (a b : ℕ) → decode m ≡ BindingSent a b → Grown e b r r' → Change e (arrival r m) (arrival r' m)
  pulls : {r r' b : List ℕ} → length r ≡ length r' → Agree (reading e (pull r b)) r r' → Change e (pull r b) (pull r' b)
  arrives : {r r' m : List ℕ} → length r ≡ length r' → Agree (reading e (arrival r m)) r r' → Change e (arrival r m) (arrival r' m)
  views : {r r' : List ℕ} {s : ℕ} → length r ≡ length r' → Change e (view r s) (view r' s)
  both : {c d f : Call} → Change e c d → Change e d f → Change e c f

-- an arrival of unknown kind, its region whole (a closed end has no region)
pub data Unknown (e : End) : Call → Type 0 where
  unknown_kind : {rx m : List ℕ} (k : ℕ) → 3 < k → (is_open e ≡ true → length rx ≡ e.rx.length) → Unknown e (arrival rx (k ∷ m))

-- a call kept, with the one of the second run, or a call put in
pub data Item : Type 0 where
  keep : Call → Call → Item
  insert : Call → Item

abbrev pub first_calls : List Item → List Call
first_calls [] = []
first_calls (keep c d ∷ s) = c ∷ first_calls s
first_calls (insert d ∷ s) = first_calls s

abbrev pub second_calls : List Item → List Call
second_calls [] = []
second_calls (keep c d ∷ s) = d ∷ second_calls s
second_calls (insert d ∷ s) = d ∷ second_calls s

-- each change is one of those, in the state that the first run has there
abbrev pub Allowed : End → List Item → Type 0
Allowed e [] = Unit {0}
Allowed e (keep c d ∷ s) = Change e c d × Allowed (step e c).next s
Allowed e (insert d ∷ s) = Unknown e d × Allowed e s

-- N5: 13, or 6 at a closed end, and nothing else
abbrev pub ignored : End → Outcome
ignored e = refused e (pick (is_open e) 13 6)

-- the first run's outcomes with an ignored one wherever a call was put in
abbrev pub with_ignored : End → List Item → List Outcome → List Outcome
with_ignored e [] os = os
with_ignored e (keep c d ∷ s) [] = []
with_ignored e (keep c d ∷ s) (o ∷ os) = o ∷ with_ignored o.next s os
with_ignored e (insert d ∷ s) os = ignored e ∷ with_ignored e s os

-- D3. From any opening, whatever calls are kept, changed and put in: the second run has the first run's outcomes,
-- and an ignored one at each call put in.
abbrev pub NewerPartner : Type 0
NewerPartner = (o : Opening) (s : List Item) → Allowed (opening o).next s →
    run (opening o).next (second_calls s) ≡ with_ignored (opening o).next s (run (opening o).next (first_calls s))
