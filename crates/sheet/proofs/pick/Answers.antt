use mathlib.Core.Path.{sym, ap, ◌∙◌}
use native.Mathlib.Omega.{arith}
use Rattle.std.specs.Prelude.{Ok}
use Rattle.sheet.specs.Picks.{outcome_of}
use Rattle.sheet.proofs.Picks.{part_of}
use Rattle.sheet.proofs.Promises.{promises}
use Rattle.sheet.proofs.pick.Goals as goal

pub overflow_add-end : goal.overflow_add-end
overflow_add-end c = omega (arith, part_of _ _ _ _ (ap outcome_of (sym (c.in-Ok-InHand.is ∙ ap Ok c.in-Ok-InHand.field-0-is)) ∙ c.ask_pick.ensures))

pub slice_bounds-result-end-in-Ok-InHand : goal.slice_bounds-result-end-in-Ok-InHand
slice_bounds-result-end-in-Ok-InHand c = omega (arith, part_of _ _ _ _ (ap outcome_of (sym (c.in-Ok-InHand.is ∙ ap Ok c.in-Ok-InHand.field-0-is)) ∙ c.ask_pick.ensures))

pub overflow_add-end-in-Ok-InIncoming : goal.overflow_add-end-in-Ok-InIncoming
overflow_add-end-in-Ok-InIncoming c = omega (arith, part_of _ _ _ _ (ap outcome_of (sym (c.in-Ok-InIncoming.is ∙ ap Ok c.in-Ok-InIncoming.field-0-is)) ∙ c.ask_pick.ensures))

pub slice_bounds-result-end-in-Ok-InIncoming : goal.slice_bounds-result-end-in-Ok-InIncoming
slice_bounds-result-end-in-Ok-InIncoming c = omega (arith, part_of _ _ _ _ (ap outcome_of (sym (c.in-Ok-InIncoming.is ∙ ap Ok c.in-Ok-InIncoming.field-0-is)) ∙ c.ask_pick.ensures))

pub returns-in-Err-clause-promises : goal.returns-in-Err-clause-promises
returns-in-Err-clause-promises c = promises

pub returns-in-Ok-InHand-clause-promises : goal.returns-in-Ok-InHand-clause-promises
returns-in-Ok-InHand-clause-promises c = promises

pub returns-in-Ok-InIncoming-clause-promises : goal.returns-in-Ok-InIncoming-clause-promises
returns-in-Ok-InIncoming-clause-promises c = promises
