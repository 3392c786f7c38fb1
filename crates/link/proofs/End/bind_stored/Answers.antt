use mathlib.Core.Bool.{false}
use mathlib.Core.List.{[]}
use mathlib.Core.Path.{◌≡◌, refl, ap, ◌∙◌}
use native.Mathlib.Omega.{arith}
use lib.ListN.{length, get_or}
use Rattle.std.specs.Prelude.{Err}
use Rattle.std.proofs.Common.{rules}
use Rattle.blocks.proofs.Loops.{in_list}
use Rattle.endpoints.specs.Endpoints.{no_binding}
use Rattle.endpoints.specs.declared.Binding.{Binding}
use Rattle.icbmsg.specs.Outcome.{accepted, control}
use Rattle.icbmsg.specs.Registering.{bound_to_stored}
use Rattle.icbmsg.specs.End.{End}
use Rattle.link.specs.Answers.{end_of}
use Rattle.link.proofs.Clauses.{both_said}
use Rattle.link.proofs.PushCalls.{ring_refuses, ring_takes, joined-writing}
use Rattle.link.proofs.RegisterCalls.{taken_over}
use Rattle.link.proofs.End.bind_stored.Goals as goal
use Rattle.link.proofs.End.bind_stored.Goals.{Start}

-- the stored binding, as the code reads it; d stands beyond the bindings
read : (c : Start) (d : Binding) → get_or c.args.self.now.bindings c.args.j d ≡ get_or c.args.self.now.bindings c.args.j no_binding
read c d =
    let n : length c.args.self.now.bindings ≡ 8 = search rules in
    in_list c.args.self.now.bindings c.args.j d no_binding (omega (arith, n, c.requires.2))

pub overflow_cast-block : goal.overflow_cast-block
overflow_cast-block c = rw (read (goal.at.overflow_cast-block c).Start _) (omega (arith, c.requires.3))

pub free_run-requires : goal.free_run-requires
free_run-requires c = rw (read (goal.at.free_run-requires c).Start _) c.requires.4

-- where the ring refuses it,
-- the end stays as it was
pub returns-in_err-self : goal.returns-in_err-self
returns-in_err-self c =
    let e = c.args.self.now in
    let b = get_or e.bindings c.args.j no_binding in
    let m = rw (read (goal.at.returns-in_err-self c).Start _) at c.push_control.ensures in
    let r : c.from_residual.result ≡ Err c.in_err-self.field-0.0 = search rules in
    rw r (both_said (ring_refuses e.numbers e.tables e.endpoints e.bindings c.args.tx.now _ (bound_to_stored (end_of e) c.args.name.now c.args.i c.args.j b) _ 3 b.address b.start _ _ _ _ refl refl refl m _ c.in_err-self.was))

pub returns : goal.returns
returns c =
    let e = c.args.self.now in
    let b = get_or e.bindings c.args.j no_binding in
    let g = read (goal.at.returns c).Start (record { stored = false; address = 0; start = 0; count = 0; name = [] }) in
    let m = rw g at c.push_control.ensures in
    let f = rw g at c.free_run.ensures in
    let z = ring_takes e.numbers e.tables e.endpoints e.bindings c.args.tx.now _ (bound_to_stored (end_of e) c.args.name.now c.args.i c.args.j b) _ 3 b.address b.start _ _ _ _ refl refl refl m _ c.in_ok-self.was in
    let t = taken_over e.numbers e.tables e.bindings c.args.kept c.args.i c.args.name.now e.endpoints c.args.j b _ c.requires.0 f in
    rw g (record {
      answer = ap (λ (x : End). accepted x (control 3 b.address b.start)) (joined-writing e.numbers _ _ _ c.in_ok-self.field-0 _ t) ∙ z.0;
      tx = z.1;
    })
