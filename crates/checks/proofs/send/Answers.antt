use Prim.Native.Nat.{◌≤◌}
use mathlib.Core.Bool.{true}
use mathlib.Core.List.{[]}
use mathlib.Core.Path.{◌≡◌}
use native.Mathlib.Omega.{arith}
use Rattle.std.specs.Prelude.{Err}
use Rattle.std.proofs.Common.{rules}
use Rattle.refusal.specs.declared.Refusal.TheVariants.{NotBound}
use Rattle.blocks.specs.Tables.{entry, starts}
use Rattle.blocks.specs.declared.Use.TheVariants.{Reserved}
use Rattle.endpoints.proofs.Addressees.{nobody_there, somebody_there}
use Rattle.tables.specs.Compact.{table_of}
use Rattle.checks.specs.Parts.{joined}
use Rattle.checks.proofs.OpenSays.{is_whole, whole_says, open_says}
use Rattle.checks.proofs.Runs.{run-refused, run-live}
use Rattle.checks.proofs.Sends.{send-refused, send_15, send_23, send-fits}
use Rattle.checks.proofs.send.Goals as goal
use Rattle.checks.proofs.send.Goals.{In_ok-reserved}

-- the reservation
run : (c : In_ok-reserved) → let a = c.args in
    (c.is_whole-whole.result ≡ true) × (starts Reserved a.n.tx.block_count (table_of a.t.now 0) a.s ≡ true) × (c.in_ok-reserved.reserved ≡ entry (table_of a.t.now 0) a.s)
run c = run-live _ _ _ _ _ c.live.ensures _ c.in_ok-reserved.was

size : (c : In_ok-reserved) → 4 ≤ c.args.n.tx.block_size
size c =
    let a = c.args in
    let e = joined a.n a.t.now a.endpoints.now [] in
    let r = run-live _ _ _ _ _ c.live.ensures _ c.in_ok-reserved.was in
    (open_says e (whole_says e a.n.tx a.lent (is_whole e a.n.tx a.lent _ c.is_whole-whole.ensures r.0)).is_open).tx.size

pub returns-in_err-reserved : goal.returns-in_err-reserved
returns-in_err-reserved c = λ bs.
    let a = c.args in
    let r : c.from_residual.result ≡ Err c.in_err-reserved.field-0.0 = search rules in
    rw r (send-refused a.n a.t.now a.endpoints.now a.lent a.s a.address a.k _ c.is_whole-whole.ensures bs c.in_err-reserved.field-0.0 (run-refused _ _ _ _ _ c.live.ensures _ c.in_err-reserved.was))

pub returns-in_err-address : goal.returns-in_err-address
returns-in_err-address c = λ bs.
    let a = c.args in
    let h = run (goal.at.returns-in_err-address c).In_ok-reserved in
    let r : c.from_residual-in_err-address.result ≡ Err NotBound = search rules in
    rw r (send_15 a.n a.t.now a.endpoints.now a.lent a.s a.address a.k _ c.is_whole-whole.ensures bs h.0 h.1 (nobody_there _ a.address a.endpoints.now c.find_addressee.ensures c.in_err-address.ensures.ok_part))

pub returns-then-held-n : goal.returns-then-held-n
returns-then-held-n c = λ bs.
    let a = c.args in
    let h = run (goal.at.returns-then-held-n c).In_ok-reserved in
    send_23 a.n a.t.now a.endpoints.now a.lent a.s a.address a.k _ c.is_whole-whole.ensures bs h.0 h.1 (somebody_there _ a.address a.endpoints.now c.find_addressee.ensures _ c.in_ok-address.ensures.ok_part).1 _ h.2 c.if-held-n.true

pub returns : goal.returns
returns c = λ bs.
    let a = c.args in
    let h = run (goal.at.returns c).In_ok-reserved in
    let t = somebody_there _ a.address a.endpoints.now c.find_addressee.ensures _ c.in_ok-address.ensures.ok_part in
    send-fits a.n a.t.now a.endpoints.now a.lent a.s a.address a.k _ c.is_whole-whole.ensures bs h.0 h.1 t.1 _ h.2 _ _ (omega (arith, size (goal.at.returns c).In_ok-reserved)) t.0 c.least_blocks-count.ensures c.if-held-n.false
