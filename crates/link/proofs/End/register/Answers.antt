use mathlib.Core.Path.{◌≡◌}
use lib.ListN.{length}
use Rattle.std.specs.Prelude.{Ok, Err}
use Rattle.std.proofs.Common.{rules}
use Rattle.checks.specs.Decisions.{PlaceAs}
use Rattle.link.specs.Answers.{end_of}
use Rattle.link.proofs.Clauses.{both_said}
use Rattle.link.proofs.PushCalls.{before_ring}
use Rattle.link.proofs.RegisterCalls.{place-refused, place_at, whole_numbers, registers-first, registers_later}
use Rattle.link.proofs.End.register.Goals as goal
use Rattle.link.proofs.End.register.Goals.{In_ok-registering}

at : (c : In_ok-registering) → PlaceAs (Ok c.in_ok-registering.registering) (end_of c.args.self.now) (length c.args.tx.now) c.args.name.now
at c = let e = c.args.self.now in place_at _ (end_of e) (length c.args.tx.now) c.args.name.now (c.register.ensures e.tables e.bindings) _ c.in_ok-registering.was

pub initiate-requires : goal.initiate-requires
initiate-requires c =
    let e = c.args.self.now in
    let p = at (goal.at.initiate-requires c).In_ok-registering in
    let w = whole_numbers e.numbers e.tables e.endpoints e.bindings (length c.args.tx.now) p.1 in
    (w.0, w.1, p.2, p.3, p.4)

pub follow-requires : goal.follow-requires
follow-requires c =
    let e = c.args.self.now in
    let p = at (goal.at.follow-requires c).In_ok-registering in
    ((whole_numbers e.numbers e.tables e.endpoints e.bindings (length c.args.tx.now) p.1).0, p.3, p.4)

pub returns-in_err-registering : goal.returns-in_err-registering
returns-in_err-registering c =
    let e = c.args.self.now in
    let r : c.from_residual.result ≡ Err c.in_err-registering.field-0.0 = search rules in
    rw r (both_said (before_ring (end_of e) c.args.tx.now _ _ (place-refused _ (end_of e) (length c.args.tx.now) c.args.name.now (c.register.ensures e.tables e.bindings) _ c.in_err-registering.was)))

pub returns-then-self : goal.returns-then-self
returns-then-self c =
    let p = at (goal.at.returns-then-self c).In_ok-registering in
    both_said (registers-first (end_of c.args.self.now) (length c.args.tx.now) c.args.name.now _ p.0 c.if-self.true _ c.args.tx.now _ c.initiate.ensures.answer c.initiate.ensures.tx)

pub returns-else-self : goal.returns-else-self
returns-else-self c =
    let p = at (goal.at.returns-else-self c).In_ok-registering in
    both_said (registers_later (end_of c.args.self.now) (length c.args.tx.now) c.args.name.now _ p.0 c.if-self.false _ c.args.tx.now _ c.follow.ensures.answer c.follow.ensures.tx)
