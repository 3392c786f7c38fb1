use mathlib.Core.Path.{refl}
use native.Mathlib.Omega.{arith}
use Rattle.wire.specs.Bytes.{wrote}
use Rattle.icmsg.proofs.Checks.{sound_says, ring_passed, ring_refused, refused_at}
use Rattle.icmsg.proofs.Pulls.{found-fits, pull_6, past_6}
use Rattle.icmsg.proofs.pull.Goals as goal

pub returns-in_err-check_ring : goal.returns-in_err-check_ring
unfolding wrote
returns-in_err-check_ring c =
    let h = ring_refused _ _ c.check_ring.ensures _ c.in_err-check_ring.was in
    rw (pull_6 _ _ _ _ _ h.0, ← h.1) (record { answer = refused_at _ _ c.from_residual.ensures.1; region = refl; buffer = refl })

pub look-requires : goal.look-requires
look-requires c = sound_says _ _ _ (ring_passed _ _ c.check_ring.ensures c.in_ok-check_ring.was)

pub returns-in_err-next : goal.returns-in_err-next
unfolding wrote
returns-in_err-next c =
    rw (past_6 _ _ _ _ _ (ring_passed _ _ c.check_ring.ensures c.in_ok-check_ring.was), ← c.look.ensures, c.in_err-next.was)
    (record { answer = refused_at _ _ c.from_residual-in_err-next.ensures.1; region = refl; buffer = refl })

pub take_found-requires : goal.take_found-requires
take_found-requires c =
    let a = c.args in
    let o = sound_says _ _ _ (ring_passed _ _ c.check_ring.ensures c.in_ok-check_ring.was) in
    record { sound = o; found_fits = rw (← c.look.ensures, c.in_ok-next.was) at (found-fits a.ring a.own a.region.now (omega (arith, o.below))) }

pub returns : goal.returns
returns c =
    rw (past_6 _ _ _ _ _ (ring_passed _ _ c.check_ring.ensures c.in_ok-check_ring.was), ← c.look.ensures, c.in_ok-next.was)
    (record { answer = c.take_found.ensures.answer; region = c.take_found.ensures.region; buffer = c.take_found.ensures.buffer })
