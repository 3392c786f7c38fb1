use Prim.Native.Nat.{◌<◌, ◌≤◌}
use mathlib.Core.Path.{◌≡◌}
use native.Mathlib.Omega.{arith}
use Rattle.std.specs.Prelude.{Err}
use Rattle.std.proofs.Common.{rules}
use Rattle.link.proofs.OpeningCall.{laid_out, tx-refused, rx-refused, overlap, opened}
use Rattle.link.proofs.openings.accepted.Goals as goal
use Rattle.link.proofs.openings.accepted.Goals.{In_ok-t, In_ok-r}

-- what the code needs of the two regions
tx-laid : (c : In_ok-t) → let o = c.args.o in let y = c.in_ok-t.t in
    (o.tx.begin ≤ o.tx.end) × (o.tx.begin ≤ y.begin) × (o.tx.begin ≤ y.blocks_begin) × (o.tx.block_count < 65536) × (o.alignment < 65536)
tx-laid c = laid_out c.args.o.tx _ _ _ c.layout.ensures _ c.in_ok-t.was

rx-laid : (c : In_ok-r) → let o = c.args.o in let y = c.in_ok-r.r in
    (o.rx.begin ≤ o.rx.end) × (o.rx.begin ≤ y.begin) × (o.rx.begin ≤ y.blocks_begin) × (o.rx.block_count < 65536) × (o.alignment < 65536)
rx-laid c = laid_out c.args.o.rx _ _ _ c.layout-2.ensures _ c.in_ok-r.was

pub overflow_cast-o : goal.overflow_cast-o
overflow_cast-o c = omega (arith, tx-laid (goal.at.overflow_cast-o c).In_ok-t)

pub placed_region-requires : goal.placed_region-requires
placed_region-requires c = let h = tx-laid (goal.at.placed_region-requires c).In_ok-t in (h.0, h.1, h.2, h.3)

pub placed_region-requires-2 : goal.placed_region-requires-2
placed_region-requires-2 c = let h = rx-laid (goal.at.placed_region-requires-2 c).In_ok-r in (h.0, h.1, h.2, h.3)

pub returns-in_err-t : goal.returns-in_err-t
returns-in_err-t c =
    let r : c.from_residual.result ≡ Err c.in_err-t.field-0.0 = search rules in
    rw r (tx-refused c.args.o _ c.layout.ensures _ c.in_err-t.was)

pub returns-in_err-r : goal.returns-in_err-r
returns-in_err-r c =
    let r : c.from_residual-in_err-r.result ≡ Err c.in_err-r.field-0.0 = search rules in
    rw r (rx-refused c.args.o _ c.layout.ensures _ c.in_ok-t.was _ c.layout-2.ensures _ c.in_err-r.was)

pub returns-then-not-apart : goal.returns-then-not-apart
returns-then-not-apart c = overlap c.args.o _ c.layout.ensures _ c.in_ok-t.was _ c.layout-2.ensures _ c.in_ok-r.was c.if-not-apart.true

pub returns : goal.returns
returns c =
    rw (c.fresh.ensures, c.placed_region.ensures, c.placed_region-2.ensures)
    (opened c.args.o _ c.layout.ensures _ c.in_ok-t.was _ c.layout-2.ensures _ c.in_ok-r.was c.if-not-apart.false)
