use Rattle.std.proofs.lemmas.Result.{err_from_is_err_and}
use Rattle.panel.proofs.Opening.{layout-refused, wrong_slice, whole_slice}
use Rattle.panel.proofs.open_ring.Goals as goal

pub returns-in_err-y-clause-number : goal.returns-in_err-y-clause-number
returns-in_err-y-clause-number c =
    let p = err_from_is_err_and c.from_residual.result c.from_residual.ensures.1 in
    rw (p.1, p.2) (layout-refused _ _ _ _ _ c.in_err-y.was)

pub returns-then-n-end-clause-number : goal.returns-then-n-end-clause-number
returns-then-n-end-clause-number c = wrong_slice _ _ _ _ c.in_ok-y.was _ c.if-n-end.true

pub returns-clause-number : goal.returns-clause-number
returns-clause-number c = whole_slice _ _ _ _ c.in_ok-y.was _ c.if-n-end.false
