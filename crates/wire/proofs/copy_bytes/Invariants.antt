use mathlib.Core.Path.{◌≡◌}
use Rattle.wire.specs.Bytes.{straight, bytes, writes, wrote}
use Rattle.wire.proofs.copy_bytes.Given as goal

abbrev pub invariant-loop-i : goal.invariant-loop-i
invariant-loop-i l = l.dst ≡ wrote l.initial.dst (writes (straight l.to) (bytes l.src (straight l.from) l.i))
