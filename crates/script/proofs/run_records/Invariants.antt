use Prim.Native.Nat.{◌-◌, ◌^◌, ◌≤◌, ◌<◌}
use mathlib.Core.Path.{◌≡◌}
use lib.ListN.{length, drop}
use Rattle.script.specs.Script.{Result, RowsFrom}
use Rattle.script.proofs.run_records.Given as goal

abbrev pub invariant-loop-out : goal.invariant-loop-out
invariant-loop-out l = ((r : Result) → RowsFrom (drop l.at l.script) l.written l.left l.tx l.rx l.buffer l.out r → RowsFrom (drop 22 l.script) 56 l.initial.left l.initial.tx l.initial.rx l.initial.buffer l.initial.out r)
    × (l.at ≤ length l.script) × (l.written ≤ length l.out) × (length l.tx ≡ length l.initial.tx) × (length l.rx ≡ length l.initial.rx) × (length l.buffer ≡ length l.initial.buffer) × (length l.out ≡ length l.initial.out) × (length l.out < 2 ^ 64)

abbrev pub decreases-loop-out : goal.decreases-loop-out
decreases-loop-out l = length l.out - l.written
