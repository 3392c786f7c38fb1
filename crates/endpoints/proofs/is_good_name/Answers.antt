use Prim.Native.Nat.{◌≤◌, ◌<◌}
use lib.Dec.{eqb}
use lib.ListN.{length}
use Rattle.std.proofs.Common.{rules, tests}
use Rattle.std.proofs.lemmas.Iterator.{YieldsList-from_slice}
use Rattle.std.proofs.lemmas.Iterator.Search.{any_from_yields_List}
use Rattle.endpoints.proofs.GoodNames.{too_short, too_long, in_limits}
use Rattle.endpoints.proofs.is_good_name.Goals as goal
use Rattle.endpoints.proofs.is_good_name.Goals.{then-is_empty-via-then-is_empty, then-is_empty-via-else-is_empty+then-longest-name}

pub returns-then-is_empty : goal.returns-then-is_empty
returns-then-is_empty c =
    let a = c.args in
    elim c.then-is_empty.branch [
      | then-is_empty-via-then-is_empty w ↦ let l : length a.name.now < 1 = search rules in too_short a.longest a.name.now l
      | then-is_empty-via-else-is_empty+then-longest-name w ↦ let l : 1 ≤ length a.name.now = search rules in too_long a.longest a.name.now l w.if-longest-name.true
    ]

pub returns : goal.returns
returns c =
    let a = c.args in
    let l : 1 ≤ length a.name.now = search rules in
    in_limits a.longest a.name.now l _ c.if-longest-name.false (any_from_yields_List (λ b. eqb b 0) _ _ _ c.any.ensures.ran (YieldsList-from_slice a.name.now cc) (λ x b q k. search (rules, tests)))
