use mathlib.Core.Path.{◌≡◌, ap, ◌∙◌}
use lib.ListN.{length, take}
use Prim.Native.Nat.{ℕ}
use Rattle.std.specs.Prelude.{Err}
use Rattle.std.proofs.Common.{rules}
use Rattle.wire.specs.Reads.{answer}
use Rattle.icbmsg.specs.Arrivals.{arrival_rule}
use Rattle.icbmsg.specs.End.{End}
use Rattle.checks.specs.Parts.{joined}
use Rattle.link.specs.Answers.{end_of}
use Rattle.link.proofs.TurnCalls.{serve_missing, serve_handled}
use Rattle.link.proofs.End.serve.Goals as goal

pub returns-in_err-k : goal.returns-in_err-k
returns-in_err-k c =
    let e = c.args.self.now in
    let r : c.from_residual.result ≡ Err c.in_err-k.field-0.0 = search rules in
    rw (r, c.pull.ensures.others) (serve_missing e.numbers c.args.rx.now _ c.pull.result _ c.pull.ensures.answer c.pull.ensures.rx e.tables e.endpoints e.bindings _ c.in_err-k.was)

pub returns : goal.returns
returns c =
    let e = c.args.self.now in
    let o : end_of c.pull.new.self ≡ joined c.pull.new.self.numbers e.tables e.endpoints e.bindings = ap end_of c.pull.ensures.others in
    serve_handled e.numbers c.args.rx.now _ c.pull.result _ c.pull.ensures.answer c.pull.ensures.rx e.tables e.endpoints e.bindings _ _ _ _ _ c.in_ok-k.was c.pull.ensures.buffer (ap (λ (i : ℕ). take i c.pull.new.buffer) c.min-n.ensures)
    (c.arrival.ensures ∙ ap (λ (x : End). answer (arrival_rule x (length c.pull.new.rx) (take c.min-n.result c.pull.new.buffer)) c.pull.new.rx) o)
