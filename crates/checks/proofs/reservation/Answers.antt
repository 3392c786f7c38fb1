use mathlib.Core.Bool.{true}
use mathlib.Core.List.{[]}
use mathlib.Core.Path.{◌≡◌, sym, ◌∙◌}
use native.Mathlib.Omega.{arith}
use Rattle.icbmsg.specs.Ends.{open_numbers}
use Rattle.checks.specs.Parts.{joined}
use Rattle.checks.proofs.OpenSays.{Open, is_open_lem, open_says}
use Rattle.checks.proofs.Runs.{reserve_6, reserves}
use Rattle.checks.proofs.reservation.Goals as goal
use Rattle.checks.proofs.reservation.Goals.{Else-not-is_open}

opened : (c : Else-not-is_open) → let n = c.args.n in open_numbers n.alignment n.tx n.rx n.write n.read ≡ true
opened c = sym c.is_open.ensures ∙ c.if-not-is_open.false

says : (c : Else-not-is_open) → Open (joined c.args.n c.args.t.now [] [])
says c = let a = c.args in let e = joined a.n a.t.now [] [] in open_says e (is_open_lem e _ c.is_open.ensures c.if-not-is_open.false)

pub returns-then-not-is_open : goal.returns-then-not-is_open
returns-then-not-is_open c =
    let a = c.args in
    λ ps bs. reserve_6 a.n a.t.now a.k ps bs (sym c.is_open.ensures ∙ c.if-not-is_open.true)

pub fit-requires : goal.fit-requires
fit-requires c = (omega (arith, (says (goal.at.fit-requires c).Else-not-is_open).tx.size), (says (goal.at.fit-requires c).Else-not-is_open).tx.few)

pub returns : goal.returns
returns c =
    let a = c.args in
    reserves a.n a.t.now a.k (opened (goal.at.returns c).Else-not-is_open) (says (goal.at.returns c).Else-not-is_open).tx.few c.fit.result c.fit.ensures
