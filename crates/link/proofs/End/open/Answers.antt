use mathlib.Core.Path.{sym, ap, ◌∙◌}
use Rattle.icbmsg.proofs.Promises.{promises}
use Rattle.link.specs.Answers.{opened_as}
use Rattle.link.proofs.SameEnds.{same_ends}
use Rattle.link.proofs.End.open.Goals as goal

pub returns-in-Ok : goal.returns-in-Ok
returns-in-Ok c = record { answer = sym (ap opened_as c.in-Ok.is) ∙ c.accepted.ensures; promises = promises; tables = same_ends }

pub returns-in-Err : goal.returns-in-Err
returns-in-Err c = record { answer = rw c.fresh.ensures (sym (ap opened_as c.in-Err.is) ∙ c.accepted.ensures); promises = promises; tables = same_ends }
