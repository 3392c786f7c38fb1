use mathlib.Core.Path.{ap, ◌∙◌}
use native.Mathlib.Omega.{arith}
use lib.ListN.{length}
use Rattle.link.specs.Answers.{end_of}
use Rattle.link.specs.Turns.{packet_of, served_of}
use Rattle.checks.proofs.OpenSays.{not_whole, is_whole}
use Rattle.link.proofs.TurnCalls.{turn_6, turn_begins, turn_misses, turn_stops, turn_again, turn_reached}
use Rattle.link.proofs.End.turn.Goals as goal

pub returns-then-not-is_whole : goal.returns-then-not-is_whole
returns-then-not-is_whole c = let e = end_of c.args.self.now in turn_6 c.args.rx.now e c.args.most (not_whole e e.rx (length c.args.rx.now) _ c.is_whole.ensures c.if-not-is_whole.true)

pub loop-taken-init : goal.loop-taken-init
loop-taken-init c = let e = end_of c.args.self.now in turn_begins c.args.rx.now e c.args.most (is_whole e e.rx (length c.args.rx.now) _ c.is_whole.ensures c.if-not-is_whole.false)

pub returns-in-Err : goal.returns-in-Err
returns-in-Err c =
    let l = c.loop-taken in
    rw c.at_pull.ensures (turn_misses c.args.most l.taken (omega arith) (end_of l.self) l.rx (served_of c.serve.result c.serve.new.rx (end_of c.serve.new.self)) c.serve.ensures _ (ap packet_of c.in-Err.is) ∙ l.invariant)

pub returns-in-Some : goal.returns-in-Some
returns-in-Some c =
    let l = c.loop-taken in
    turn_stops c.args.most l.taken (omega arith) (end_of l.self) l.rx (served_of c.serve.result c.serve.new.rx (end_of c.serve.new.self)) c.serve.ensures _ (ap packet_of c.in-Ok.is) _ c.behind.ensures _ c.in-Some.is ∙ l.invariant

pub loop-taken-preserved : goal.loop-taken-preserved
loop-taken-preserved c =
    let l = c.loop-taken in
    turn_again c.args.most l.taken (omega arith) (end_of l.self) l.rx (served_of c.serve.result c.serve.new.rx (end_of c.serve.new.self)) c.serve.ensures _ (ap packet_of c.in-Ok.is) _ c.behind.ensures c.in_default.is ∙ l.invariant

pub returns : goal.returns
returns c = let l = c.loop-taken in turn_reached c.args.most l.taken (end_of l.self) l.rx (omega arith) ∙ l.invariant
