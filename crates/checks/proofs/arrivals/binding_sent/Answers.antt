use Prim.Native.Nat.{ℕ, ◌+◌, ◌*◌, ◌≤◌, min}
use mathlib.Core.Path.{◌≡◌, refl, sym, ap, ◌∙◌}
use native.Mathlib.Omega.{arith}
use lib.ListN.{length}
use Rattle.std.specs.Prelude.{Option, Err}
use Rattle.std.proofs.Common.{rules}
use Rattle.wire.specs.Bytes.{straight, bytes}
use Rattle.wire.specs.Choice.{passed}
use Rattle.wire.specs.Reads.{answer}
use Rattle.wire.proofs.Positions.{length-bytes}
use Rattle.refusal.specs.declared.Refusal.TheVariants.{BadName}
use Rattle.blocks.specs.Names.{name_in, name_of}
use Rattle.blocks.specs.Tables.{blocks_for}
use Rattle.blocks.proofs.Search.{at-below}
use Rattle.icbmsg.specs.Arrivals.{size_at, bound_named, bound_rule}
use Rattle.icbmsg.specs.Reading.{content_at}
use Rattle.icbmsg.specs.Outcome.{refused}
use Rattle.icbmsg.proofs.ArrivingBytes.{with_name}
use Rattle.checks.specs.Measuring.{place_number}
use Rattle.checks.specs.Parts.{joined}
use Rattle.checks.proofs.OpenSays.{is_open_lem, open_says, run_inside}
use Rattle.checks.proofs.ArrivalDecisions.{lent-whole, measured_refused, measured_fits, measured_says, bound_19, bound_14, bound_measured, name-endless, name-found, settled_not, settled}
use Rattle.checks.proofs.arrivals.binding_sent.Goals as goal
use Rattle.checks.proofs.arrivals.binding_sent.Goals.{After-measure, After-name_length, In_ok-length}

rule : (c : After-measure) → let e = (joined c.args.n c.args.t.now c.args.endpoints.now c.args.bindings.now) in
    answer (bound_rule e c.args.address c.args.block) c.args.rx.now
    ≡ passed (place_number (length c.args.rx.now) e.rx e.held c.args.block (size_at c.args.n.rx c.args.block c.args.rx.now)) (with_name e (bound_named e c.args.address c.args.block (blocks_for e.rx.block_size (size_at c.args.n.rx c.args.block c.args.rx.now))) (name_in (min (size_at c.args.n.rx c.args.block c.args.rx.now) 32) (content_at e c.args.block) c.args.rx.now)) (refused e)
rule c =
    let e = (joined c.args.n c.args.t.now c.args.endpoints.now c.args.bindings.now) in
    bound_measured e c.args.address c.args.block c.args.rx.now c.if-n.false c.if-address-gt-LAST_ADDRESS.false _ (lent-whole e _ (is_open_lem e _ refl c.requires.0) c.requires.1)

-- the message, measured: its bytes lie in the region
inside : (c : In_ok-length) → let a = c.args in
    (a.n.rx.blocks_offset + a.block * a.n.rx.block_size + 4 + c.in_ok-length.length ≤ length a.rx.now) × (length a.rx.now ≤ 1048576) × (a.n.rx.block_count ≤ 256)
inside c =
    let e = (joined c.args.n c.args.t.now c.args.endpoints.now c.args.bindings.now) in
    let o = (open_says e (is_open_lem e _ refl c.requires.0)).rx in
    let f = measured_says _ c.args.n.rx c.args.block (size_at c.args.n.rx c.args.block c.args.rx.now) _ c.measure.ensures.size c.in_ok-length.was in
    let r = run_inside c.args.n.alignment c.args.n.rx c.args.block c.in_ok-length.field-0.count o f.3 in
    (omega (arith, f.0, f.4, r, c.requires.1), omega (arith, o.bytes, c.requires.1), o.few)

-- the rule, where the name's length was looked for
named : (c : After-name_length) → let e = (joined c.args.n c.args.t.now c.args.endpoints.now c.args.bindings.now) in
    answer (bound_rule e c.args.address c.args.block) c.args.rx.now
    ≡ with_name e (bound_named e c.args.address c.args.block (blocks_for e.rx.block_size (size_at c.args.n.rx c.args.block c.args.rx.now))) (name_of c.name_length.result c.args.rx.now (content_at e c.args.block))
named c =
    let e = (joined c.args.n c.args.t.now c.args.endpoints.now c.args.bindings.now) in
    let f = measured_says _ c.args.n.rx c.args.block (size_at c.args.n.rx c.args.block c.args.rx.now) _ c.measure.ensures.size c.in_ok-length.was in
    let s = c.args.rx.now in
    let m : c.min-most.result ≡ min (size_at c.args.n.rx c.args.block c.args.rx.now) 32 = c.min-most.ensures ∙ ap (λ (x : ℕ). min x 32) f.0 in
    let g = c.name_length.ensures.0 ∙ ap (λ (x : ℕ). name_in x (content_at e c.args.block) s) m in
    bound_measured e c.args.address c.args.block s c.if-n.false c.if-address-gt-LAST_ADDRESS.false _ (lent-whole e _ (is_open_lem e _ refl c.requires.0) c.requires.1)
    ∙ measured_fits _ _ c.measure.ensures.number _ _ e c.in_ok-length.was ∙ ap (with_name e (bound_named e c.args.address c.args.block (blocks_for e.rx.block_size (size_at c.args.n.rx c.args.block c.args.rx.now)))) (sym g)

pub returns-then-n : goal.returns-then-n
returns-then-n c = bound_19 (joined c.args.n c.args.t.now c.args.endpoints.now c.args.bindings.now) c.args.address c.args.block c.args.rx.now c.if-n.true

pub returns-then-address-gt-LAST_ADDRESS : goal.returns-then-address-gt-LAST_ADDRESS
returns-then-address-gt-LAST_ADDRESS c = bound_14 (joined c.args.n c.args.t.now c.args.endpoints.now c.args.bindings.now) c.args.address c.args.block c.args.rx.now c.if-n.false c.if-address-gt-LAST_ADDRESS.true

pub returns-in_err-length : goal.returns-in_err-length
returns-in_err-length c =
    let r : c.from_residual.result ≡ Err c.in_err-length.field-0.0 = search rules in
    rw r (rule (goal.at.returns-in_err-length c).After-measure ∙ measured_refused _ _ c.measure.ensures.number _ _ (joined c.args.n c.args.t.now c.args.endpoints.now c.args.bindings.now) c.in_err-length.was)

pub name_length-requires : goal.name_length-requires
name_length-requires c =
    let h = inside (goal.at.name_length-requires c).In_ok-length in
    let l : c.min-most.result ≤ c.in_ok-length.length = rw c.min-most.ensures (omega arith) in
    omega (arith, h.0, l)

pub returns-in_err-m : goal.returns-in_err-m
returns-in_err-m c =
    let e = (joined c.args.n c.args.t.now c.args.endpoints.now c.args.bindings.now) in
    let s = c.args.rx.now in
    let r : c.from_residual-in_err-m.result ≡ Err BadName = search rules in
    rw r (named (goal.at.returns-in_err-m c).After-name_length ∙ name-endless e c.args.address c.args.block s _ _ (ap (λ (x : Option ℕ). name_of x s (content_at e c.args.block)) c.in_err-m.ensures.ok_part))

pub padded-name-requires : goal.padded-name-requires
padded-name-requires c =
    let h = inside (goal.at.padded-name-requires c).In_ok-length in
    let n = at-below _ 1 _ _ c.name_length.ensures.1 c.in_ok-m.ensures.ok_part in
    let l : (c.min-most.result ≤ c.in_ok-length.length) × (c.min-most.result ≤ 32) = rw c.min-most.ensures (omega arith, omega arith) in
    (omega (arith, h.0, n, l.0), omega (arith, n, l.1))

pub returns-in_err-binds : goal.returns-in_err-binds
returns-in_err-binds c =
    let e = (joined c.args.n c.args.t.now c.args.endpoints.now c.args.bindings.now) in
    let s = c.args.rx.now in
    let f = measured_says _ c.args.n.rx c.args.block (size_at c.args.n.rx c.args.block c.args.rx.now) _ c.measure.ensures.size c.in_ok-length.was in
    let its = bytes s (straight (content_at e c.args.block)) c.in_ok-m.m in
    let r : c.from_residual-in_err-binds.result ≡ Err c.in_err-binds.field-0.0 = search rules in
    rw r (settled_not c.settle.result e c.args.address c.args.block c.in_ok-length.field-0.count c.padded-name.result s its
    (named (goal.at.returns-in_err-binds c).After-name_length ∙ name-found e c.args.address c.args.block s _ _ its (ap (λ (x : Option ℕ). name_of x s (content_at e c.args.block)) c.in_ok-m.ensures.ok_part))
    f.1 (c.settle.ensures.rule e c.args.block _ its refl refl c.padded-name.ensures (length-bytes s (straight (content_at e c.args.block)) c.in_ok-m.m)) _ c.in_err-binds.was)

pub returns : goal.returns
returns c =
    let e = (joined c.args.n c.args.t.now c.args.endpoints.now c.args.bindings.now) in
    let s = c.args.rx.now in
    let f = measured_says _ c.args.n.rx c.args.block (size_at c.args.n.rx c.args.block c.args.rx.now) _ c.measure.ensures.size c.in_ok-length.was in
    let its = bytes s (straight (content_at e c.args.block)) c.in_ok-m.m in
    settled c.settle.result e c.args.address c.args.block c.in_ok-length.field-0.count c.padded-name.result s its
    (named (goal.at.returns c).After-name_length ∙ name-found e c.args.address c.args.block s _ _ its (ap (λ (x : Option ℕ). name_of x s (content_at e c.args.block)) c.in_ok-m.ensures.ok_part))
    f.1 (c.settle.ensures.rule e c.args.block _ its refl refl c.padded-name.ensures (length-bytes s (straight (content_at e c.args.block)) c.in_ok-m.m)) _ c.in_ok-binds.was f.2 (omega (arith, f.3, (inside (goal.at.returns c).In_ok-length).2)) c.settle.ensures.placed
