use Prim.Native.Nat.{◌-◌, ◌≤◌}
use mathlib.Core.Path.{◌≡◌}
use Rattle.endpoints.specs.Endpoints.{unused_from}
use Rattle.endpoints.proofs.unused_address.Given as goal

abbrev pub invariant-loop-a : goal.invariant-loop-a
invariant-loop-a l = (unused_from 8 0 l.endpoints ≡ unused_from (8 - l.a-counter) l.a-counter l.endpoints) × (l.a-counter ≤ 8)
