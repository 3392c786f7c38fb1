use Prim.Native.Nat.{◌-◌}
use mathlib.Core.Path.{◌≡◌}
use Rattle.icbmsg.specs.Turns.{turn_from, turn_of}
use Rattle.link.specs.Answers.{end_of}
use Rattle.link.proofs.End.turn.Given as goal

abbrev pub invariant-loop-taken : goal.invariant-loop-taken
invariant-loop-taken l = turn_from (l.most - l.taken) l.taken (end_of l.self) l.rx ≡ turn_of (end_of l.initial.self) l.initial.rx l.most
