use native.Mathlib.Omega.{arith}
use Rattle.unit.proofs.OpeningCall.{some_bytes, ring_inside}
use Rattle.unit.proofs.place.Goals as goal

pub overflow_sub-result : goal.overflow_sub-result
overflow_sub-result c =
    let h = some_bytes c.args.b _ _ c.plain.ensures _ c.in_ok-y.was in
    omega (arith, h)

pub overflow_sub-result-2 : goal.overflow_sub-result-2
overflow_sub-result-2 c = ring_inside c.args.b _ _ c.plain.ensures _ c.in_ok-y.was
