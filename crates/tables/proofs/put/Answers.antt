use Rattle.tables.proofs.Bits.{put_ones, put_zeros}
use Rattle.tables.proofs.put.Goals as goal

pub returns-then-held : goal.returns-then-held
returns-then-held c = rw c.if-held.true (put_ones _ _)

pub returns-else-held : goal.returns-else-held
returns-else-held c = rw c.if-held.false (put_zeros _ _)
