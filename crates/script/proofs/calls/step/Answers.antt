use Rattle.link.specs.Answers.{end_of}
use Rattle.script.proofs.MemoryAfter.{leaves_call}
use borrow.Author.Rules.{rules}
use Rattle.script.proofs.Memory.{calls}
use Rattle.script.proofs.calls.step.Goals as goal

pub returns-in-Call : goal.returns-in-Call
returns-in-Call c =
    let a = c.args in
    rw c.in-Call.is (record {
      answer = calls (end_of a.end.now) a.lent.now.tx a.lent.now.rx a.body.now a.tx.now a.rx.now a.buffer.now _ _ _ c.min-n.ensures c.min-m.ensures _ _ c.call.ensures.answer;
      memory = leaves_call (end_of a.end.now) a.lent.now.tx a.lent.now.rx a.body.now a.tx.now a.rx.now a.buffer.now _ _ _ c.min-n.ensures c.min-m.ensures _ _ _ (search rules) c.call.ensures.memory;
    })
