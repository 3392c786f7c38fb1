use Rattle.std.proofs.lemmas.Result.{err_from_is_err_and}
use Rattle.unit.proofs.OpeningCall.{tx-refused, rx-refused, overlap, opens}
use Rattle.unit.proofs.made.Goals as goal

pub returns-in_err-tx : goal.returns-in_err-tx
returns-in_err-tx c = let p = err_from_is_err_and c.from_residual.result c.from_residual.ensures.1 in rw (p.1, p.2) (tx-refused c.args.o _ c.place.ensures.number _ c.in_err-tx.was)

pub returns-in_err-rx : goal.returns-in_err-rx
returns-in_err-rx c =
    let p = err_from_is_err_and c.from_residual-in_err-rx.result c.from_residual-in_err-rx.ensures.1 in
    rw (p.1, p.2) (rx-refused c.args.o _ c.place.ensures.number _ c.in_ok-tx.was _ c.place-2.ensures.number _ c.in_err-rx.was)

pub returns-then-not-apart : goal.returns-then-not-apart
returns-then-not-apart c = overlap c.args.o _ c.place.ensures.number _ c.in_ok-tx.was _ c.place-2.ensures.number _ c.in_ok-rx.was c.if-not-apart.true

pub returns : goal.returns
returns c =
    opens c.args.o _ c.place.ensures.number _ c.in_ok-tx.was _ c.place-2.ensures.number _ c.in_ok-rx.was c.place.ensures.region c.place-2.ensures.region c.if-not-apart.false
