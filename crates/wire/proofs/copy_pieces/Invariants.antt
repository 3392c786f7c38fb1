use Prim.Native.Nat.{◌-◌, ◌≤◌}
use mathlib.Core.Path.{◌≡◌}
use lib.ListN.{length}
use Rattle.wire.specs.Bytes.{straight, bytes, writes, wrote}
use Rattle.wire.proofs.copy_pieces.Given as goal

abbrev pub invariant-loop-done : goal.invariant-loop-done
invariant-loop-done l = (l.done ≤ l.n) × ((l.dst ≡ wrote l.initial.dst (writes (straight l.to) (bytes l.src (straight l.from) l.done))) × (length l.dst ≡ length l.initial.dst))

abbrev pub decreases-loop-done : goal.decreases-loop-done
decreases-loop-done l = l.n - l.done
