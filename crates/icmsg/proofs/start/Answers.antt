use mathlib.Core.Path.{refl, sym, ap, ◌∙◌}
use native.Mathlib.Omega.{arith}
use Rattle.wire.specs.Bytes.{wrote}
use Rattle.wire.proofs.Positions.{wrote-append}
use Rattle.icmsg.specs.Rules.{fit_of, start_rule}
use Rattle.icmsg.proofs.Checks.{sound_says, fit_says, ring_passed, ring_refused, refused_at, outcome_6, outcome_refused, outcome_accepted}
use Rattle.icmsg.proofs.start.Goals as goal

pub returns-in_err-check_ring : goal.returns-in_err-check_ring
unfolding start_rule wrote
returns-in_err-check_ring c =
    let h = ring_refused _ _ c.check_ring.ensures _ c.in_err-check_ring.was in
    rw (outcome_6 _ _ _ _ _ _ h.0, ← h.1) (record { answer = refused_at _ _ c.from_residual.ensures.1; region = refl })

pub check_fit-requires : goal.check_fit-requires
check_fit-requires c =
    let o = sound_says _ _ _ (ring_passed _ _ c.check_ring.ensures c.in_ok-check_ring.was) in
    (omega arith, omega arith)

pub returns-in_err-check_fit : goal.returns-in_err-check_fit
unfolding start_rule wrote
returns-in_err-check_fit c =
    rw (outcome_refused _ _ _ _ _ _ (ring_passed _ _ c.check_ring.ensures c.in_ok-check_ring.was) _ c.check_fit.ensures _ c.in_err-check_fit.was)
    (record { answer = refused_at _ _ c.from_residual-in_err-check_fit.ensures.1; region = refl })

pub write_u32-requires : goal.write_u32-requires
write_u32-requires c =
    let o = sound_says _ _ _ (ring_passed _ _ c.check_ring.ensures c.in_ok-check_ring.was) in
    omega arith

pub write_u32-requires-2 : goal.write_u32-requires-2
write_u32-requires-2 c =
    let o = sound_says _ _ _ (ring_passed _ _ c.check_ring.ensures c.in_ok-check_ring.was) in
    omega arith

pub put-requires : goal.put-requires
put-requires c =
    let o = sound_says _ _ _ (ring_passed _ _ c.check_ring.ensures c.in_ok-check_ring.was) in
    let h = fit_says _ _ _ _ (sym c.check_fit.ensures ∙ ap fit_of c.in_ok-check_fit.was) in
    record { sound = omega arith; content_len_bound = (omega arith, omega (arith, h.fits)) }

pub returns : goal.returns
unfolding start_rule
returns c =
    rw (outcome_accepted _ _ _ _ _ _ (ring_passed _ _ c.check_ring.ensures c.in_ok-check_ring.was) _ c.check_fit.ensures c.in_ok-check_fit.was)
    (record { answer = rw c.put.ensures.packet; region = rw (c.put.ensures.region, c.write_u32-2.ensures, c.write_u32.ensures, wrote-append, wrote-append) })
