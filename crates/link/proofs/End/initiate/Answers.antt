use Prim.Native.Nat.{◌+◌, ◌*◌, ◌≤◌}
use mathlib.Core.Path.{◌≡◌, refl, ap, ◌∙◌}
use native.Mathlib.Omega.{arith}
use lib.ListN.{length}
use Rattle.std.specs.Prelude.{Err}
use Rattle.std.proofs.Common.{rules}
use Rattle.blocks.specs.Tables.{blocks_for}
use Rattle.icbmsg.specs.Outcome.{accepted, control}
use Rattle.icbmsg.specs.Registering.{initiates}
use Rattle.icbmsg.specs.End.{End}
use Rattle.endpoints.specs.Endpoints.{unused_from}
use Rattle.checks.proofs.OpenSays.{Sound}
use Rattle.checks.proofs.RegisterDecisions.{good_length}
use Rattle.link.specs.Answers.{end_of}
use Rattle.link.proofs.Clauses.{both_said}
use Rattle.link.proofs.PushCalls.{before_ring, ring_refuses, ring_takes, joined-writing, same_address}
use Rattle.link.proofs.RegisterCalls.{tx_sound, initiate_refused, initiate_fits, announces, announced, announcement-inside}
use Rattle.link.proofs.End.initiate.Goals as goal
use Rattle.link.proofs.End.initiate.Goals.{Start, In_ok-space}

short : (c : Start) → length c.args.name.now ≤ 31
short c = (good_length c.args.name.now c.requires.2).1

sound : (c : Start) → let n = c.args.self.now.numbers in Sound n.alignment n.tx
sound c = (tx_sound c.args.self.now.numbers c.requires.0).0

-- the blocks that were found
fits : (c : In_ok-space) → let n = c.args.self.now.numbers in let m = c.in_ok-space.space in
    (m.count ≡ blocks_for n.tx.block_size (length c.args.name.now + 1)) × (1 ≤ m.count) × (m.start + m.count ≤ n.tx.block_count)
fits c = let e = c.args.self.now in initiate_fits e.numbers e.tables c.args.name.now _ c.fit.ensures _ c.in_ok-space.was

inside : (c : In_ok-space) → let n = c.args.self.now.numbers in
    (n.tx.blocks_offset + c.in_ok-space.space.start * n.tx.block_size + (length c.args.name.now + 1) + 4 ≤ length c.args.tx.now) × (length c.args.tx.now ≤ 1048576)
inside c =
    let e = c.args.self.now in
    let f = initiate_fits e.numbers e.tables c.args.name.now _ c.fit.ensures _ c.in_ok-space.was in
    announcement-inside e.numbers (length c.args.name.now + 1) c.in_ok-space.space.start _ _ (tx_sound e.numbers c.requires.0).0 f.0 f.2 c.requires.1

pub overflow_cast-k : goal.overflow_cast-k
overflow_cast-k c = let s : length c.args.name.now ≤ 31 = (good_length c.args.name.now c.requires.2).1 in omega (arith, s)

pub overflow_add-k : goal.overflow_add-k
overflow_add-k c = let s : length c.args.name.now ≤ 31 = (good_length c.args.name.now c.requires.2).1 in omega (arith, s)

pub fit-requires : goal.fit-requires
fit-requires c = let s = (tx_sound c.args.self.now.numbers c.requires.0).0 in (omega (arith, s.size), s.few)

pub overflow_mul-at : goal.overflow_mul-at
overflow_mul-at c = let i = inside (goal.at.overflow_mul-at c).In_ok-space in omega (arith, i.0, i.1)

pub overflow_add-at : goal.overflow_add-at
overflow_add-at c = let i = inside (goal.at.overflow_add-at c).In_ok-space in omega (arith, i.0, i.1)

pub overflow_cast-block : goal.overflow_cast-block
overflow_cast-block c =
    let s = (tx_sound c.args.self.now.numbers c.requires.0).0 in
    let f = fits (goal.at.overflow_cast-block c).In_ok-space in omega (arith, f.1, f.2, s.few)

pub announce_binding-requires : goal.announce_binding-requires
announce_binding-requires c =
    let s : length c.args.name.now ≤ 31 = (good_length c.args.name.now c.requires.2).1 in
    (s, omega (arith, (inside (goal.at.announce_binding-requires c).In_ok-space).0))

pub take_run-requires : goal.take_run-requires
take_run-requires c =
    let l : length c.args.name.now ≤ 31 = (good_length c.args.name.now c.requires.2).1 in
    let s = (tx_sound c.args.self.now.numbers c.requires.0).0 in
    let f = fits (goal.at.take_run-requires c).In_ok-space in
    (f.1, omega (arith, f.2, s.few), omega (arith, l), refl)

pub returns-in_err-space : goal.returns-in_err-space
returns-in_err-space c =
    let e = c.args.self.now in
    let r : c.from_residual.result ≡ Err c.in_err-space.field-0.0 = search rules in
    rw r (both_said (before_ring (end_of e) c.args.tx.now _ _ (initiate_refused e.numbers e.tables c.args.name.now _ c.fit.ensures _ c.in_err-space.was e.endpoints e.bindings c.args.i)))

-- where the ring refuses it,
-- the end stays as it was
pub returns-in_err-self : goal.returns-in_err-self
returns-in_err-self c =
    let e = c.args.self.now in
    let r : c.from_residual-in_err-self.result ≡ Err c.in_err-self.field-0.0 = search rules in
    let q = announces e.numbers e.tables c.args.name.now _ c.fit.ensures _ c.in_ok-space.was e.endpoints e.bindings c.args.i in
    rw r (both_said (ring_refuses e.numbers e.tables e.endpoints e.bindings c.args.tx.now _ (initiates (end_of e) c.args.name.now c.args.i) _ 2 (unused_from 8 0 e.endpoints) c.in_ok-space.space.start _ _ _ _ q refl
    (rw c.unused_address-address.ensures refl) c.announce_binding.ensures _ c.in_err-self.was))

pub returns : goal.returns
returns c =
    let e = c.args.self.now in
    let u = c.unused_address-address.ensures in
    let q = announces e.numbers e.tables c.args.name.now _ c.fit.ensures _ c.in_ok-space.was e.endpoints e.bindings c.args.i in
    let z = ring_takes e.numbers e.tables e.endpoints e.bindings c.args.tx.now _ (initiates (end_of e) c.args.name.now c.args.i) _ 2 (unused_from 8 0 e.endpoints) c.in_ok-space.space.start _ _ _ _ q refl (rw u refl) c.announce_binding.ensures _ c.in_ok-self.was in
    let t = announced e.numbers e.tables c.args.name.now _ c.fit.ensures _ c.in_ok-space.was e.endpoints e.bindings c.args.i _ _ c.args.kept u c.take_run.ensures c.requires.3 in
    record {
      answer = ap (λ (x : End). accepted x (control 2 c.unused_address-address.result c.in_ok-space.space.start)) (joined-writing e.numbers _ _ e.bindings c.in_ok-self.field-0 _ t) ∙ same_address _ 2 _ _ _ _ u z.0;
      tx = z.1;
    }
