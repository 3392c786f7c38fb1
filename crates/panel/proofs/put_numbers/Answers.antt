use mathlib.Core.Path.{◌≡◌, ◌∙◌}
use native.Mathlib.Nat.{min_comm}
use native.Mathlib.Omega.{arith}
use lib.ListN.{length}
use Rattle.panel.proofs.Answers.{none_yet, one_more_that_fits, all_that_fit}
use Rattle.panel.proofs.put_numbers.Goals as goal

pub loop-i-init : goal.loop-i-init
loop-i-init c = none_yet _ _

pub loop-i-preserved : goal.loop-i-preserved
loop-i-preserved c = c.put_at.ensures ∙ rw c.loop-i.invariant (one_more_that_fits _ _ _)

pub returns : goal.returns
returns c =
    let all : c.loop-i.i ≡ length c.args.numbers.now = omega arith in
    c.loop-i.invariant ∙ all_that_fit _ _ _ (rw all (min_comm _ _))
