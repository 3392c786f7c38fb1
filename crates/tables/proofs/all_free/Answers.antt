use mathlib.Core.Path.{sym}
use native.Mathlib.Omega.{arith}
use Rattle.blocks.proofs.AllFree.{none_free, free-next, held_between}
use Rattle.tables.proofs.Bits.{kept_next}
use Rattle.tables.proofs.Entries.{even_free, odd_held}
use Rattle.tables.proofs.all_free.Goals as goal

pub loop-i-init : goal.loop-i-init
loop-i-init c = (none_free _ _, record { rest = λ h. c.bits_at-bits.ensures })

pub returns-then-bits-eq1 : goal.returns-then-bits-eq1
returns-then-bits-eq1 c =
    let l = c.loop-i in
    let p = c.loop-i-test.true in
    sym (held_between _ _ _ l.i l.auto.i (omega (arith, p)) (odd_held _ _ l.i _ (omega (arith, p)) c.next_bits-bits.ensures c.if-bits-eq1.true))

pub loop-i-preserved : goal.loop-i-preserved
loop-i-preserved c =
    let l = c.loop-i in
    let p = c.loop-i-test.true in
    let e = c.next_bits-bits.ensures in
    (free-next _ _ l.i l.auto.i l.invariant.0 (even_free _ _ l.i _ (omega (arith, p)) e (omega (arith, c.if-bits-eq1.false))), kept_next _ _ l.i _ e)
