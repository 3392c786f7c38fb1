use Prim.Native.Nat.{◌<◌}
use mathlib.Core.Path.{◌≡◌, refl}
use native.Mathlib.Omega.{arith}
use lib.ListN.{length}
use Rattle.std.specs.Prelude.{Err}
use Rattle.std.proofs.Common.{rules}
use Rattle.refusal.specs.declared.Refusal.TheVariants.{NotBound}
use Rattle.blocks.proofs.Search.{ends_nowhere, ends_at, at-below}
use Rattle.checks.specs.Parts.{joined}
use Rattle.checks.proofs.OpenSays.{is_open_lem}
use Rattle.checks.proofs.ArrivalDecisions.{data_14, data_15, data_refused, data_fits}
use Rattle.checks.proofs.arrivals.data_sent.Goals as goal

pub returns-then-address-gt-LAST_ADDRESS : goal.returns-then-address-gt-LAST_ADDRESS
returns-then-address-gt-LAST_ADDRESS c = λ b. data_14 (joined c.args.n c.args.t.now c.args.endpoints.now b) c.args.address c.args.block c.args.rx.now c.if-address-gt-LAST_ADDRESS.true

pub returns-in_err-place : goal.returns-in_err-place
returns-in_err-place c = λ b.
    let r : c.from_residual.result ≡ Err NotBound = search rules in
    rw r (data_15 (joined c.args.n c.args.t.now c.args.endpoints.now b) c.args.address c.args.block c.args.rx.now c.if-address-gt-LAST_ADDRESS.false (ends_nowhere _ _ c.find_receiver.ensures.0 c.in_err-place.ensures.ok_part))

pub returns-in_err-length : goal.returns-in_err-length
returns-in_err-length c = λ b.
    let a = c.args in
    let o = is_open_lem (joined a.n a.t.now a.endpoints.now b) _ refl c.requires.0 in
    let r : c.from_residual-in_err-length.result ≡ Err c.in_err-length.field-0.0 = search rules in
    rw r (data_refused (joined a.n a.t.now a.endpoints.now b) a.address a.block a.rx.now c.if-address-gt-LAST_ADDRESS.false _ (ends_at _ _ c.find_receiver.ensures.0 _ c.in_ok-place.ensures.ok_part) o (length a.rx.now) c.requires.1
    c.measure.result c.measure.ensures.number _ c.in_err-length.was)

pub returns : goal.returns
returns c = λ b.
    let a = c.args in
    let o = is_open_lem (joined a.n a.t.now a.endpoints.now b) _ refl c.requires.0 in
    let i : c.in_ok-place.place < 8 = omega (arith, at-below _ 1 8 _ c.find_receiver.ensures.1 c.in_ok-place.ensures.ok_part) in
    data_fits (joined a.n a.t.now a.endpoints.now b) a.address a.block a.rx.now c.if-address-gt-LAST_ADDRESS.false _ (ends_at _ _ c.find_receiver.ensures.0 _ c.in_ok-place.ensures.ok_part) o (length a.rx.now) c.requires.1
    c.measure.result c.measure.ensures.number _ c.in_ok-length.was c.measure.ensures.size i
