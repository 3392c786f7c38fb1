use native.Mathlib.Omega.{arith}
use Rattle.tables.proofs.Bits.{mask_at}
use Rattle.tables.proofs.mask.Goals as goal

pub overflow_sub-result : goal.overflow_sub-result
overflow_sub-result c = (mask_at c.args.low c.args.high 0 c.requires.0 c.requires.1 (omega arith)).order

pub overflow_cast-result-3 : goal.overflow_cast-result-3
overflow_cast-result-3 c = record { fits = (mask_at c.args.low c.args.high 0 c.requires.0 c.requires.1 (omega arith)).fits }

pub returns : goal.returns
returns c = λ j l. (mask_at c.args.low c.args.high j c.requires.0 c.requires.1 l).bit
