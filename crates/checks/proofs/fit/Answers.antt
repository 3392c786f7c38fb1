use Prim.Native.Nat.{◌≤◌}
use Rattle.blocks.proofs.LeastBlocks.{blocks-one}
use Rattle.blocks.proofs.Search.{ends_at, at-below}
use Rattle.checks.proofs.fit.Goals as goal
use Rattle.checks.proofs.fit.Goals.{After-least_blocks-count}

some : (c : After-least_blocks-count) → 1 ≤ c.least_blocks-count.result
some c = rw c.least_blocks-count.ensures (blocks-one c.args.g.block_size c.args.k c.requires.0)

pub lowest_run-requires : goal.lowest_run-requires
lowest_run-requires c = (c.requires.1, some (goal.at.lowest_run-requires c).After-least_blocks-count)

pub returns : goal.returns
returns c =
    let s = c.in_ok-start.ensures.ok_part in
    (c.least_blocks-count.ensures, c.if-g-count.false, ends_at _ _ c.lowest_run.ensures.0 _ s, some (goal.at.returns c).After-least_blocks-count, at-below _ _ _ _ c.lowest_run.ensures.1 s)
