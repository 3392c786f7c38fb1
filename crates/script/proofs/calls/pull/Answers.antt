use lib.ListN.{length, take}
use Rattle.wire.specs.Reads.{answer}
use Rattle.icbmsg.specs.Outcome.{without_writes}
use Rattle.icbmsg.specs.Rings.{pull_rule}
use Rattle.link.specs.Answers.{end_of}
use Rattle.script.proofs.WholeEnds.{on_numbers, ring_ran}
use Rattle.script.proofs.Memory.{pulled_as}
use Rattle.script.proofs.MemoryAfter.{pulled-bytes}
use Rattle.script.proofs.calls.pull.Goals as goal

pub returns : goal.returns
returns c =
    let e = c.args.end.now in
    let m = c.min-lent.ensures in
    let h = on_numbers (λ x. without_writes (answer (pull_rule x (length c.args.rx.now) (length (take c.min-lent.result c.args.buffer.now))) c.args.rx.now)) e c.pull.new.self _ c.pull.ensures.answer c.pull.ensures.others in
    let z = pulled-bytes (end_of e) c.args.rx.now c.args.buffer.now c.args.n _ m _ _ (c.pull.ensures.rx e.tables e.endpoints e.bindings) (c.pull.ensures.buffer e.tables e.endpoints e.bindings) in
    record { answer = ring_ran _ _ _ _ c.ring_answered.ensures (pulled_as (end_of e) c.args.rx.now c.args.buffer.now c.args.n _ m _ h); rx = z.0; buffer = z.1 }
