use mathlib.Core.Path.{◌≡◌}
use lib.ListN.{length}
use Rattle.wire.proofs.Words.{Left}
use Rattle.wire.proofs.write_numbers.Given as goal

abbrev pub invariant-loop-i : goal.invariant-loop-i
invariant-loop-i l = Left l.initial.s l.s l.p l.numbers l.i × (length l.s ≡ length l.initial.s)
