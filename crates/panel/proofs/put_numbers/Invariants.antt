use Prim.Native.Nat.{min}
use mathlib.Core.Path.{◌≡◌}
use lib.ListN.{length}
use Rattle.panel.proofs.Answers.{after_first}
use Rattle.panel.proofs.put_numbers.Given as goal

abbrev pub invariant-loop-i : goal.invariant-loop-i
invariant-loop-i l = l.answer ≡ after_first l.initial.answer l.numbers (min l.i (length l.initial.answer))
