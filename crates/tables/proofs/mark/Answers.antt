use Prim.Native.Nat.{◌+◌, ◌≤◌, ◌<◌, ◌*◌, ◌/◌, ◌%◌}
use mathlib.Core.Path.{◌≡◌}
use native.Mathlib.Omega.{arith}
use borrow.Author.Rules.{rules}
use lib.ListN.{length}
use Rattle.tables.proofs.Bits.{mark_next}
use Rattle.tables.proofs.mark.Goals as goal

pub loop-i-preserved : goal.loop-i-preserved
loop-i-preserved c =
    let l = c.loop-i in
    let v = l.invariant in
    let long : length l.t ≡ 3136 = search rules in
    let high : c.min-high.result ≤ 8 = search rules in
    let ends : 8 * (l.i / 8) + c.min-high.result ≤ c.args.s + c.args.n = search rules in
    let more : l.i % 8 < c.min-high.result = search rules in
    (mark_next _ _ _ l.i _ _ _ _ l.t v.0 long c.args.base.inside v.1 (omega arith) more high c.mask-m.ensures c.put.ensures, omega arith, ends, v.3)
