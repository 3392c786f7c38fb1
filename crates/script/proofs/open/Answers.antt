use mathlib.Core.Path.{ap}
use Rattle.icbmsg.specs.Outcome.{Outcome}
use Rattle.script.proofs.open.Goals as goal

pub returns : goal.returns
returns c =
    let o = c.open-opened.ensures.answer in
    let w = rw c.answered.ensures at c.row-row.ensures in
    record { left = record { end = ap (λ (x : Outcome). x.next) o; lent_tx = c.bytes.ensures; lent_rx = c.bytes-2.ensures }; out = rw (← o, ← w) c.write_numbers.ensures }
