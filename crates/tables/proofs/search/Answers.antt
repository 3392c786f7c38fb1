use Prim.Native.Nat.{◌%◌, ◌<◌}
use mathlib.Core.Path.{◌≡◌, refl, ◌∙◌}
use native.Mathlib.Omega.{arith}
use Rattle.tables.proofs.Loops.{past-free, past-held, found_nowhere, found-run}
use Rattle.tables.proofs.Bits.{bit_clear, bit_set, rotate}
use Rattle.tables.proofs.Entries.{even_free, odd_held}
use borrow.Author.Rules.{rules}
use Rattle.tables.proofs.search.Goals as goal
use Rattle.tables.proofs.search.Goals.{then-held-eq0+else-run-n, else-held-eq0}

pub returns-then-run-n : goal.returns-then-run-n
returns-then-run-n c =
    let l = c.loop-i in
    let b : l.i < c.args.block_count = omega (arith, c.loop-i-test.true) in
    let m : l.i < 256 = omega (arith, b, c.requires.0) in
    found-run l.invariant.1 b c.if-run-n.true (even_free _ _ l.i _ m refl (bit_clear _ _ (l.i % 8) l.invariant.2 c.if-held-eq0.true)) (omega (arith, l.invariant.0))

pub loop-i-preserved : goal.loop-i-preserved
loop-i-preserved c =
    let l = c.loop-i in
    let b : l.i < c.args.block_count = omega (arith, c.loop-i-test.true) in
    let m : l.i < 256 = omega (arith, b, c.requires.0) in
    let u = c.rotate_left-m.ensures ∙ rotate l.i l.m l.invariant.2 in
    elim c.if-held-eq0.branch [
      | then-held-eq0+else-run-n w ↦ (search rules, rw w.run-is (past-free l.invariant.1 b (omega (arith, l.invariant.4, w.if-run-n.false)) (even_free _ _ l.i _ m refl (bit_clear _ _ (l.i % 8) l.invariant.2 w.if-held-eq0.true))), u, omega (arith, w.run-is, l.invariant.3), omega (arith, w.run-is, l.invariant.4, w.if-run-n.false), omega arith)
      | else-held-eq0 w ↦ (search rules, rw w.run-is (past-held l.invariant.1 b (odd_held _ _ l.i _ m refl (bit_set _ _ (l.i % 8) l.invariant.2 w.if-held-eq0.false))), u, omega (arith, w.run-is), omega (arith, w.run-is, l.invariant.4), omega arith)
    ]

pub returns : goal.returns
returns c =
    let l = c.loop-i in
    let e : l.i ≡ c.args.block_count = omega (arith, l.invariant.5, c.loop-i-test.false) in
    found_nowhere l.invariant.1 e c.requires.1 l.invariant.0
