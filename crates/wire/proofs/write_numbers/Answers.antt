use mathlib.Core.Path.{refl}
use Rattle.wire.proofs.Words.{none_written, one_more, all-written}
use borrow.Author.Rules.{rules}
use Rattle.wire.proofs.write_numbers.Goals as goal

pub loop-i-init : goal.loop-i-init
loop-i-init c = (none_written _ _ _, refl)

pub loop-i-preserved : goal.loop-i-preserved
loop-i-preserved c = (rw c.write_u32.ensures (one_more c.loop-i.invariant.0 c.loop-i-test.true), search rules)

pub returns : goal.returns
returns c = all-written c.loop-i.invariant.0 c.loop-i-test.false
