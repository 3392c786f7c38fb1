use Rattle.std.proofs.Common.{◌≤◌, length}
use Rattle.script_main.proofs.behind.Given as goal

abbrev pub invariant-loop : goal.invariant-loop
invariant-loop l = length l.rest ≤ length l.script
