use mathlib.Core.Path.{◌≡◌}
use native.Mathlib.Omega.{arith}
use Rattle.std.specs.Prelude.{Err}
use Rattle.std.proofs.Common.{rules}
use Rattle.refusal.specs.declared.Refusal.TheVariants.{NoPlace}
use Rattle.blocks.proofs.Search.{ends_nowhere, ends_at, at-below}
use Rattle.checks.proofs.ArrivalDecisions.{bind_20, bind_21, bind_waiting, bind_22, bind_stored, clash_of, stored_of, waiting_of}
use Rattle.checks.proofs.arrivals.settle.Goals as goal

pub returns-then-n-lt1-clause-rule : goal.returns-then-n-lt1-clause-rule
returns-then-n-lt1-clause-rule c = λ e b m its p q k l. bind_20 e c.args.address b m its (omega (arith, l, c.if-n-lt1.true))

pub returns-then-bound-stored-clause-rule : goal.returns-then-bound-stored-clause-rule
returns-then-bound-stored-clause-rule c = λ e b m its p q k l.
    let a = c.args in
    bind_21 e a.address b m its (omega (arith, l, c.if-n-lt1.false)) c.clashes-bound.result c.stored_clashes-stored.result (rw p (clash_of a.endpoints.now a.name.now its a.address k _ c.clashes-bound.ensures))
    (rw q (stored_of a.bindings.now a.name.now its a.address k _ c.stored_clashes-stored.ensures)) c.if-bound-stored.true

pub returns-in-Some-clause-rule : goal.returns-in-Some-clause-rule
returns-in-Some-clause-rule c = λ e b m its p q k l.
    let a = c.args in
    bind_waiting e a.address b m its (omega (arith, l, c.if-n-lt1.false)) c.clashes-bound.result c.stored_clashes-stored.result (rw p (clash_of a.endpoints.now a.name.now its a.address k _ c.clashes-bound.ensures))
    (rw q (stored_of a.bindings.now a.name.now its a.address k _ c.stored_clashes-stored.ensures)) c.if-bound-stored.false a.name.now k _
    (rw p (waiting_of a.endpoints.now a.name.now its a.address k _ (ends_at _ _ c.find_waiting.ensures.0 _ c.in-Some.is)))

pub returns-in_err-j-clause-rule : goal.returns-in_err-j-clause-rule
returns-in_err-j-clause-rule c = λ e b m its p q k l.
    let a = c.args in
    let r : c.from_residual.result ≡ Err NoPlace = search rules in
    rw r (bind_22 e a.address b m its (omega (arith, l, c.if-n-lt1.false)) c.clashes-bound.result c.stored_clashes-stored.result (rw p (clash_of a.endpoints.now a.name.now its a.address k _ c.clashes-bound.ensures))
    (rw q (stored_of a.bindings.now a.name.now its a.address k _ c.stored_clashes-stored.ensures)) c.if-bound-stored.false a.name.now k
    (rw p (waiting_of a.endpoints.now a.name.now its a.address k _ (ends_nowhere _ _ c.find_waiting.ensures.0 c.in_default.is)))
    (rw q (ends_nowhere _ _ c.find_free.ensures.0 c.in_err-j.ensures.ok_part)))

pub returns-clause-rule : goal.returns-clause-rule
returns-clause-rule c = λ e b m its p q k l.
    let a = c.args in
    bind_stored e a.address b m its (omega (arith, l, c.if-n-lt1.false)) c.clashes-bound.result c.stored_clashes-stored.result (rw p (clash_of a.endpoints.now a.name.now its a.address k _ c.clashes-bound.ensures))
    (rw q (stored_of a.bindings.now a.name.now its a.address k _ c.stored_clashes-stored.ensures)) c.if-bound-stored.false a.name.now k _
    (rw p (waiting_of a.endpoints.now a.name.now its a.address k _ (ends_nowhere _ _ c.find_waiting.ensures.0 c.in_default.is)))
    (rw q (ends_at _ _ c.find_free.ensures.0 _ c.in_ok-j.ensures.ok_part))

pub returns-in-Some-clause-placed : goal.returns-in-Some-clause-placed
returns-in-Some-clause-placed c = omega (arith, at-below _ 1 _ _ c.find_waiting.ensures.1 c.in-Some.is)

pub returns-clause-placed : goal.returns-clause-placed
returns-clause-placed c = omega (arith, at-below _ 1 _ _ c.find_free.ensures.1 c.in_ok-j.ensures.ok_part)
