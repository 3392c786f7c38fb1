use Rattle.script.proofs.FirstRecord.{no_opening, an_opening}
use Rattle.script.proofs.records.opening.Goals as goal

pub returns-then-script-lt-OPENING : goal.returns-then-script-lt-OPENING
returns-then-script-lt-OPENING c = no_opening _ c.if-script-lt-OPENING.true

pub returns : goal.returns
returns c =
    rw (c.read_u16-3.ensures.0, c.read_u16-2.ensures.0, c.read_u32-4.ensures, c.read_u32-3.ensures, c.read_u16.ensures.0, c.read_u32-2.ensures, c.read_u32.ensures)
    (an_opening _ c.if-script-lt-OPENING.false)
