use mathlib.Core.Path.{◌∙◌}
use Rattle.script.proofs.MemoryAfter.{written_over, nothing_over}
use Rattle.script.proofs.calls.overwrite.Goals as goal

pub returns-then-p-memory : goal.returns-then-p-memory
returns-then-p-memory c =
    rw (← c.read_u32-p.ensures) (c.copy.ensures ∙ written_over c.args.memory.now c.args.body.now _ _ c.requires c.if-p-memory.true c.min-n.ensures)

pub returns-else-p-memory : goal.returns-else-p-memory
returns-else-p-memory c =
    let a = c.args in
    rw (← c.read_u32-p.ensures) (nothing_over a.memory.now a.body.now _ c.if-p-memory.false)
