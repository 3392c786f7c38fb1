use Prim.Native.Nat.{◌+◌, ◌≤◌}
use mathlib.Core.Path.{◌≡◌, refl}
use native.Mathlib.Omega.{arith}
use Rattle.std.specs.Prelude.{Err}
use Rattle.std.proofs.Common.{rules}
use Rattle.link.proofs.MessageCalls.{space_refused, space_at, reserved}
use Rattle.link.proofs.End.reserve.Goals as goal
use Rattle.link.proofs.End.reserve.Goals.{In_ok-space}

fits : (c : In_ok-space) → (1 ≤ c.in_ok-space.space.count) × (c.in_ok-space.space.start + c.in_ok-space.space.count ≤ 256)
fits c = let e = c.args.self.now in space_at e.numbers e.tables c.args.k _ c.reservation.ensures _ c.in_ok-space.was

pub take_run-requires : goal.take_run-requires
take_run-requires c = let f = fits (goal.at.take_run-requires c).In_ok-space in (f.0, f.1, omega arith, refl)

pub overflow_cast-result : goal.overflow_cast-result
overflow_cast-result c = omega (arith, (fits (goal.at.overflow_cast-result c).In_ok-space).1)

pub overflow_cast-result-2 : goal.overflow_cast-result-2
overflow_cast-result-2 c = omega (arith, (fits (goal.at.overflow_cast-result-2 c).In_ok-space).1)

pub returns-in_err-space-clause-answer : goal.returns-in_err-space-clause-answer
returns-in_err-space-clause-answer c = λ ps bs.
    let e = c.args.self.now in
    let r : c.from_residual.result ≡ Err c.in_err-space.field-0.0 = search rules in
    rw r (space_refused e.numbers e.tables c.args.k _ c.reservation.ensures _ c.in_err-space.was ps bs)

pub returns-clause-answer : goal.returns-clause-answer
returns-clause-answer c = let e = c.args.self.now in reserved e.numbers e.tables c.args.k _ c.reservation.ensures _ c.in_ok-space.was _ c.take_run.ensures
