use Rattle.icmsg.proofs.Pulls.{length-straight}
use native.Mathlib.Omega.{arith}
use Rattle.icmsg.proofs.content_length.Goals as goal

pub returns : goal.returns
returns c =
    (rw (length-straight _ _ _ _ c.requires) (omega arith), omega arith)
