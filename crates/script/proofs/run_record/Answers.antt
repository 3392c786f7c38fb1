use mathlib.Core.Path.{◌≡◌, ap}
use native.Mathlib.Omega.{arith}
use lib.ListN.{length}
use Rattle.script.specs.Calls.{Step}
use Rattle.script.proofs.run_record.Goals as goal

pub write_numbers-requires : goal.write_numbers-requires
write_numbers-requires c =
    let n : length c.row-row.result ≡ 14 = ap length c.row-row.ensures in
    omega (arith, c.requires.1)

pub returns : goal.returns
returns c =
    let h = c.step-reply.ensures.answer in
    record { left = record { end = ap (λ (d : Step). d.end) h; lent_tx = ap (λ (d : Step). d.lent_tx) h; lent_rx = ap (λ (d : Step). d.lent_rx) h }; memory = c.step-reply.ensures.memory; out = rw (← h, ← c.row-row.ensures) c.write_numbers.ensures }
