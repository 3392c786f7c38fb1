use Prim.Native.Nat.{◌<◌, min}
use mathlib.Core.Path.{◌≡◌, ap, ◌∙◌}
use native.Mathlib.Omega.{arith}
use borrow.Author.Rules.{rules}
use Rattle.blocks.specs.Tables.{free_from}
use Rattle.tables.proofs.Loops.{count_free, count_held, count_ends}
use Rattle.tables.proofs.Bits.{kept_next}
use Rattle.tables.proofs.Entries.{even_free, odd_held}
use Rattle.tables.proofs.free_blocks.Goals as goal
use Rattle.tables.proofs.free_blocks.Goals.{then-bits-eq0, else-bits-eq0}

pub loop-i-preserved : goal.loop-i-preserved
loop-i-preserved c =
    let l = c.loop-i in
    let h = c.loop-i-test.true in
    let e = c.next_bits-bits.ensures in
    let m : l.i < 256 = search rules in
    elim c.if-bits-eq0.branch [
      | then-bits-eq0 w ↦ (rw w.free-is (count_free l.invariant.0 h (even_free _ _ l.i _ m e w.if-bits-eq0.true)), kept_next _ _ l.i _ e, search rules)
      | else-bits-eq0 w ↦ (rw w.free-is (count_held l.invariant.0 h (odd_held _ _ l.i _ m e (omega (arith, w.if-bits-eq0.false)))), kept_next _ _ l.i _ e, search rules)
    ]

pub returns : goal.returns
returns c =
    let e : c.min-end.result ≡ min c.args.block_count 256 = search rules in
    count_ends c.loop-i.invariant.0 c.loop-i-test.false ∙ ap (free_from _ 0) e
