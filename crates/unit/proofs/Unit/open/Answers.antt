use Rattle.unit.proofs.Promises.{promises}
use Rattle.unit.proofs.Unit.open.Goals as goal

pub returns-in-Ok-clause-promises : goal.returns-in-Ok-clause-promises
returns-in-Ok-clause-promises c = promises

pub returns-in-Err-clause-promises : goal.returns-in-Err-clause-promises
returns-in-Err-clause-promises c = promises
