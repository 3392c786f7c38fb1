use native.Mathlib.Omega.{arith}
use Rattle.std.proofs.lemmas.Result.{err_from_is_err_and}
use Rattle.icmsg.specs.Ring.{index_at}
use Rattle.icmsg.specs.Rules.{push_number}
use Rattle.icmsg.proofs.Checks.{sound_says, ring_passed, ring_refused, too_long}
use Rattle.icmsg.proofs.room.Goals as goal

pub returns-in_err-check_ring : goal.returns-in_err-check_ring
unfolding push_number
returns-in_err-check_ring c =
    let h = ring_refused _ _ c.check_ring.ensures _ c.in_err-check_ring.was in
    let p = err_from_is_err_and c.from_residual.result c.from_residual.ensures.1 in
    rw (h.0, p.1, p.2) h.1

pub returns-then-k-gt65535 : goal.returns-then-k-gt65535
unfolding push_number
returns-then-k-gt65535 c = rw (ring_passed _ _ c.check_ring.ensures c.in_ok-check_ring.was) (too_long _ _ _ _ c.if-k-gt65535.true)

pub read_u32-partner-requires : goal.read_u32-partner-requires
read_u32-partner-requires c =
    let o = sound_says _ _ _ (ring_passed _ _ c.check_ring.ensures c.in_ok-check_ring.was) in
    omega arith

pub check_fit-requires : goal.check_fit-requires
check_fit-requires c =
    let o = sound_says _ _ _ (ring_passed _ _ c.check_ring.ensures c.in_ok-check_ring.was) in
    (omega arith, c.if-k-gt65535.false)

pub returns : goal.returns
unfolding push_number index_at
returns c = rw (ring_passed _ _ c.check_ring.ensures c.in_ok-check_ring.was, ← c.read_u32-partner.ensures) c.check_fit.ensures
