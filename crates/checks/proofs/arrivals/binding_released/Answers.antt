use mathlib.Core.Path.{◌≡◌}
use Rattle.std.specs.Prelude.{Err}
use Rattle.std.proofs.Common.{rules}
use Rattle.checks.specs.Parts.{joined}
use Rattle.checks.proofs.Runs.{run-refused, run-live}
use Rattle.checks.proofs.ArrivalDecisions.{unbind_14, unbind_refused, unbind_other, unbind_live}
use Rattle.checks.proofs.arrivals.binding_released.Goals as goal

pub returns-then-address-gt-LAST_ADDRESS : goal.returns-then-address-gt-LAST_ADDRESS
returns-then-address-gt-LAST_ADDRESS c = λ ps bs. unbind_14 (joined c.args.n c.args.t.now ps bs) c.args.address c.args.block c.if-address-gt-LAST_ADDRESS.true

pub returns-in_err-x : goal.returns-in_err-x
returns-in_err-x c = λ ps bs.
    let e = joined c.args.n c.args.t.now ps bs in
    let r : c.from_residual.result ≡ Err c.in_err-x.field-0.0 = search rules in
    rw r (unbind_refused e c.args.address c.args.block c.if-address-gt-LAST_ADDRESS.false c.in_err-x.field-0.0 (λ o. run-refused _ _ _ _ _ c.live.ensures _ c.in_err-x.was e o))

pub returns-then-x-address : goal.returns-then-x-address
returns-then-x-address c = λ ps bs.
    let r = run-live _ _ _ _ _ c.live.ensures _ c.in_ok-x.was in
    unbind_other (joined c.args.n c.args.t.now ps bs) c.args.address c.args.block c.if-address-gt-LAST_ADDRESS.false r.0 _ r.1 r.2 c.if-x-address.true

pub returns : goal.returns
returns c = λ ps bs.
    let r = run-live _ _ _ _ _ c.live.ensures _ c.in_ok-x.was in
    unbind_live (joined c.args.n c.args.t.now ps bs) c.args.address c.args.block c.if-address-gt-LAST_ADDRESS.false r.0 _ r.1 r.2 c.if-x-address.false
