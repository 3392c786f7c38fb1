use native.Mathlib.Omega.{arith}
use Rattle.region.proofs.Checks.{refused_4, refused_4_block, passed_4}
use Rattle.region.proofs.fitted.Goals as goal

pub returns-then-length-taken : goal.returns-then-length-taken
returns-then-length-taken c =
    refused_4 _ _ _ _ _ _ _ _ c.requires.bounds c.up_to-before.ensures.0 c.past-behind.ensures.0 c.ring_minimum.ensures.0 (omega arith) c.if-length-taken.true

pub returns-then-size-eq0 : goal.returns-then-size-eq0
returns-then-size-eq0 c =
    refused_4_block _ _ _ _ _ _ _ _ c.requires.bounds c.up_to-before.ensures.0 c.past-behind.ensures.0 c.ring_minimum.ensures.0 c.if-length-taken.false _ c.block_size-size.ensures.0 c.if-size-eq0.true

pub returns : goal.returns
returns c =
    passed_4 _ _ _ _ _ _ _ _ c.requires.bounds c.up_to-before.ensures.0 c.past-behind.ensures.0 c.ring_minimum.ensures.0 c.if-length-taken.false _ c.block_size-size.ensures.0 c.if-size-eq0.false
