use Prim.Native.Nat.{◌-◌}
use native.Mathlib.Omega.{arith}
use mathlib.Core.Path.{◌≡◌, ◌∙◌}
use lib.ListN.{length, take}
use borrow.Author.Tests.{le-leb, lt-leb}
use Rattle.std.specs.List.{list_all}
use Rattle.std.proofs.Common.{rules}
use Rattle.std.proofs.Common.{rules, tests, arith}
use Rattle.std.proofs.lemmas.Iterator.{YieldsList-from_slice}
use Rattle.std.proofs.lemmas.Iterator.Search.{all_from_yields_List}
use Rattle.sheet.specs.Sheets.{is_group, is_path}
use Rattle.sheet.proofs.Paths.{groups_all}
use Rattle.sheet.proofs.is_path.Goals.{then-n-eq0-via-then-n-eq0, then-n-eq0-via-else-n-eq0+then-n-gt-MOST_TAGS}
use Rattle.sheet.proofs.is_path.Goals as goal

pub returns-then-n-eq0 : goal.returns-then-n-eq0
unfolding is_path
returns-then-n-eq0 c =
    let n = length c.args.path.now in
    elim c.then-n-eq0.branch [
      | then-n-eq0-via-then-n-eq0 w ↦ rw (lt-leb 1 n (omega arith))
      | then-n-eq0-via-else-n-eq0+then-n-gt-MOST_TAGS w ↦ rw (le-leb 1 n (omega arith), lt-leb n 5 (omega arith))
    ]

pub returns : goal.returns
unfolding is_path
returns c =
    let path = c.args.path.now in
    let n = length path in
    let all : c.all.result ≡ list_all is_group (take (n - 1) path) =
    all_from_yields_List is_group _ _ c.all.result c.all.ensures.ran (YieldsList-from_slice (take (n - 1) path) cc) (λ x b q k. search (rules, tests)) in
    all ∙ groups_all path (n - 1) (omega arith) ∙ rw (le-leb 1 n (omega arith), le-leb n 5 (omega arith))
