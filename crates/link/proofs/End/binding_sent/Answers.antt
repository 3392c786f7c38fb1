use Prim.Native.Nat.{◌+◌, ◌≤◌}
use mathlib.Core.Path.{◌≡◌, refl}
use native.Mathlib.Omega.{arith}
use Rattle.std.specs.Prelude.{Err}
use Rattle.std.proofs.Common.{rules}
use Rattle.link.proofs.ArrivalCalls.{bind_refused, bind_waiting, bind_blocks, bind_stored}
use Rattle.link.proofs.End.binding_sent.Goals as goal
use Rattle.link.proofs.End.binding_sent.Goals.{In_ok-named}

blocks : (c : In_ok-named) → let m = c.in_ok-named.named.count in (1 ≤ m) × (c.args.block + m ≤ 256)
blocks c = let e = c.args.self.now in bind_blocks e.numbers e.tables e.endpoints e.bindings c.args.address c.args.block c.args.rx.now _ c.binding_sent.ensures _ c.in_ok-named.was

pub take_run-requires : goal.take_run-requires
take_run-requires c = let b = blocks (goal.at.take_run-requires c).In_ok-named in (b.0, b.1, omega arith, refl)

pub returns-in_err-named : goal.returns-in_err-named
returns-in_err-named c =
    let e = c.args.self.now in
    let r : c.from_residual.result ≡ Err c.in_err-named.field-0.0 = search rules in
    rw r (bind_refused e.numbers e.tables e.endpoints e.bindings c.args.address c.args.block c.args.rx.now _ c.binding_sent.ensures _ c.in_err-named.was)

pub returns-in-Waiting : goal.returns-in-Waiting
returns-in-Waiting c = let e = c.args.self.now in bind_waiting e.numbers e.tables e.endpoints e.bindings c.args.address c.args.block c.args.rx.now _ c.binding_sent.ensures _ c.in_ok-named.was _ c.in-Waiting.is

pub returns-in-Stored : goal.returns-in-Stored
returns-in-Stored c = let e = c.args.self.now in bind_stored e.numbers e.tables e.endpoints e.bindings c.args.address c.args.block c.args.rx.now _ c.binding_sent.ensures _ c.in_ok-named.was _ c.in-Stored.is _ c.take_run.ensures
