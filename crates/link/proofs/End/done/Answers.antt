use Prim.Native.Nat.{◌+◌, ◌≤◌, ◌<◌}
use mathlib.Core.Bool.{true}
use mathlib.Core.List.{List, []}
use mathlib.Core.Path.{◌≡◌, refl, sym, ap, ◌∙◌}
use native.Mathlib.Omega.{arith}
use lib.ListN.{length}
use Rattle.std.specs.Prelude.{Err}
use Rattle.std.proofs.Common.{rules}
use Rattle.blocks.specs.Tables.{entry, starts_data}
use Rattle.blocks.proofs.Tables.{data_run}
use Rattle.endpoints.specs.declared.Endpoint.{Endpoint}
use Rattle.endpoints.specs.declared.Binding.{Binding}
use Rattle.tables.specs.Compact.{table_of}
use Rattle.icbmsg.specs.Outcome.{accepted, control}
use Rattle.icbmsg.specs.Ends.{whole}
use Rattle.icbmsg.specs.Messages.{done_of}
use Rattle.icbmsg.specs.End.{End}
use Rattle.icbmsg.proofs.Effects.{whole_open}
use Rattle.checks.specs.Parts.{joined}
use Rattle.checks.proofs.OpenSays.{open_says, whole_is}
use Rattle.checks.proofs.Runs.{run-refused, run-live}
use Rattle.link.proofs.Clauses.{with_others}
use Rattle.link.proofs.MessageCalls.{done_refused, done-live, joined-held}
use Rattle.link.proofs.PushCalls.{before_ring, ring_refuses, ring_takes, joined-writing}
use Rattle.link.proofs.End.done.Goals as goal
use Rattle.link.proofs.End.done.Goals.{After-is_whole-whole, In_ok-message}

lent : (c : After-is_whole-whole) (ps : List Endpoint) (bs : List Binding) → let e = c.args.self.now in c.is_whole-whole.result ≡ whole (joined e.numbers e.tables ps bs) e.numbers.tx (length c.args.tx.now)
lent c ps bs = let e = c.args.self.now in whole_is (joined e.numbers e.tables ps bs) e.numbers.tx (length c.args.tx.now) _ c.is_whole-whole.ensures

run : (c : In_ok-message) → let e = c.args.self.now in
    (c.is_whole-whole.result ≡ true) × (starts_data e.numbers.rx.block_count e.numbers.rx.block_size (table_of e.tables 1568) c.args.start ≡ true) × (c.in_ok-message.message ≡ entry (table_of e.tables 1568) c.args.start)
run c = run-live _ _ _ _ _ c.received.ensures _ c.in_ok-message.was

ends : (c : In_ok-message) → (c.args.start < 256) × (c.args.start + c.in_ok-message.message.count ≤ 256)
ends c =
    let e = joined c.args.self.now.numbers c.args.self.now.tables [] [] in
    let w : c.is_whole-whole.result ≡ whole e e.tx (length c.args.tx.now) = whole_is e e.tx (length c.args.tx.now) _ c.is_whole-whole.ensures in
    let r = run-live _ _ _ _ _ c.received.ensures _ c.in_ok-message.was in
    let d = (data_run e.rx.block_count e.rx.block_size e.held c.args.start r.1).0 in
    let f = (open_says e (whole_open e e.tx (length c.args.tx.now) (sym w ∙ r.0))).rx.few in
    rw r.2 (omega (arith, d.below, f), omega (arith, d.ends, f))

pub overflow_cast-block : goal.overflow_cast-block
overflow_cast-block c = omega (arith, (ends c).0)

pub free_run-requires : goal.free_run-requires
free_run-requires c = (ends (goal.at.free_run-requires c).In_ok-message).1

pub returns-in_err-message : goal.returns-in_err-message
returns-in_err-message c =
    let e = c.args.self.now in
    let r : c.from_residual.result ≡ Err c.in_err-message.field-0.0 = search rules in
    rw r (with_others (λ ps bs.
    let q = done_refused e.numbers e.tables (length c.args.tx.now) c.args.start ps bs _ (lent (goal.at.returns-in_err-message c).After-is_whole-whole ps bs) c.in_err-message.field-0.0 (run-refused _ _ _ _ _ c.received.ensures _ c.in_err-message.was) in
    before_ring (joined e.numbers e.tables ps bs) c.args.tx.now _ _ q) refl)

-- where the ring refuses it,
-- the end stays as it was
pub returns-in_err-self : goal.returns-in_err-self
returns-in_err-self c =
    let e = c.args.self.now in
    let r : c.from_residual-in_err-self.result ≡ Err c.in_err-self.field-0.0 = search rules in
    rw r (with_others (λ ps bs.
    let q = done-live e.numbers e.tables (length c.args.tx.now) c.args.start ps bs _ (lent (goal.at.returns-in_err-self c).After-is_whole-whole ps bs) _ (run (goal.at.returns-in_err-self c).In_ok-message) in
    ring_refuses e.numbers e.tables ps bs c.args.tx.now _ (done_of (joined e.numbers e.tables ps bs) (length c.args.tx.now) c.args.start) _ 1 0 c.args.start _ _ _ _ q refl refl c.push_control.ensures _ c.in_err-self.was) refl)

pub returns : goal.returns
returns c =
    let e = c.args.self.now in
    with_others (λ ps bs.
    let q = done-live e.numbers e.tables (length c.args.tx.now) c.args.start ps bs _ (lent (goal.at.returns c).After-is_whole-whole ps bs) _ (run (goal.at.returns c).In_ok-message) in
    let z = ring_takes e.numbers e.tables ps bs c.args.tx.now _ (done_of (joined e.numbers e.tables ps bs) (length c.args.tx.now) c.args.start) _ 1 0 c.args.start _ _ _ _ q refl refl c.push_control.ensures _ c.in_ok-self.was in
    let t = joined-held e.numbers e.tables _ _ ps bs c.free_run.ensures in
    (ap (λ (e : End). accepted e (control 1 0 c.args.start)) (joined-writing e.numbers _ ps bs c.in_ok-self.field-0 _ t) ∙ z.0, z.1)) refl
