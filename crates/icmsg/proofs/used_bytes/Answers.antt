use native.Mathlib.Omega.{arith}
use Rattle.icmsg.proofs.Checks.{used_past_end, used-straight}
use Rattle.icmsg.proofs.used_bytes.Goals as goal

pub returns-then-w-r : goal.returns-then-w-r
returns-then-w-r c = (used_past_end _ _ _ c.if-w-r.true c.requires.0, omega arith)

pub returns-else-w-r : goal.returns-else-w-r
returns-else-w-r c = (used-straight _ _ _ c.if-w-r.false c.requires.1, omega arith)
