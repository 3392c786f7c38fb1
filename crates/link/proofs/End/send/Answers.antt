use mathlib.Core.List.{List, []}
use mathlib.Core.Path.{◌≡◌, refl, ap, ◌∙◌}
use native.Mathlib.Omega.{arith}
use lib.ListN.{length}
use Rattle.std.specs.Prelude.{Ok, Err}
use Rattle.std.proofs.Common.{rules}
use Rattle.endpoints.specs.declared.Binding.{Binding}
use Rattle.icbmsg.specs.Outcome.{accepted, control}
use Rattle.icbmsg.specs.Messages.{send_of}
use Rattle.icbmsg.specs.End.{End}
use Rattle.checks.specs.Parts.{joined}
use Rattle.checks.specs.Decisions.{SendAs}
use Rattle.checks.proofs.Runs.{PartIn, room-part}
use Rattle.link.proofs.Clauses.{with_others_of_one}
use Rattle.link.proofs.MessageCalls.{send-refused, send-fits, sent}
use Rattle.link.proofs.PushCalls.{before_ring, ring_refuses, ring_takes, joined-writing}
use Rattle.link.proofs.End.send.Goals as goal
use Rattle.link.proofs.End.send.Goals.{In_ok-sending}

-- what was decided, and the reservation's part of the region
decided : (c : In_ok-sending) (bs : List Binding) → let e = c.args.self.now in SendAs (Ok c.in_ok-sending.sending) (joined e.numbers e.tables e.endpoints bs) (length c.args.tx.now) c.args.start c.args.address c.args.k
decided c bs = let e = c.args.self.now in send-fits e.numbers e.tables e.endpoints (length c.args.tx.now) c.args.start c.args.address c.args.k _ bs (c.send.ensures bs) _ c.in_ok-sending.was

part : (c : In_ok-sending) → PartIn c.args.self.now.numbers.tx c.args.start c.in_ok-sending.sending.held (length c.args.tx.now)
part c =
    let e = c.args.self.now in
    let f = send-fits e.numbers e.tables e.endpoints (length c.args.tx.now) c.args.start c.args.address c.args.k _ [] (c.send.ensures []) _ c.in_ok-sending.was in
    rw f.4 (room-part (joined e.numbers e.tables e.endpoints []) (length c.args.tx.now) c.args.start f.2 f.3)

pub overflow_cast-block : goal.overflow_cast-block
overflow_cast-block c = omega (arith, (part c).low)

pub overflow_mul-at : goal.overflow_mul-at
overflow_mul-at c = let p = part (goal.at.overflow_mul-at c).In_ok-sending in omega (arith, p.product, p.most)

pub overflow_add-at : goal.overflow_add-at
overflow_add-at c = let p = part (goal.at.overflow_add-at c).In_ok-sending in omega (arith, p.inside, p.most)

pub announce_data-requires : goal.announce_data-requires
announce_data-requires c = let p = part (goal.at.announce_data-requires c).In_ok-sending in omega (arith, p.inside, p.four)

pub free_run-requires : goal.free_run-requires
free_run-requires c = (part (goal.at.free_run-requires c).In_ok-sending).ends

pub take_run-requires : goal.take_run-requires
take_run-requires c =
    let f = decided (goal.at.take_run-requires c).In_ok-sending [] in
    let p = part (goal.at.take_run-requires c).In_ok-sending in
    (f.5, omega (arith, p.ends, f.6), omega (arith, f.7, p.inside, p.most), refl)

pub returns-in_err-sending : goal.returns-in_err-sending
returns-in_err-sending c =
    let e = c.args.self.now in
    let r : c.from_residual.result ≡ Err c.in_err-sending.field-0.0 = search rules in
    rw r (with_others_of_one (λ bs.
    before_ring (joined e.numbers e.tables e.endpoints bs) c.args.tx.now _ _ (send-refused e.numbers e.tables e.endpoints (length c.args.tx.now) c.args.start c.args.address c.args.k _ bs (c.send.ensures bs) _ c.in_err-sending.was)) refl)

-- where the ring refuses it,
-- the end stays as it was
pub returns-in_err-self : goal.returns-in_err-self
returns-in_err-self c =
    let e = c.args.self.now in
    let r : c.from_residual-in_err-self.result ≡ Err c.in_err-self.field-0.0 = search rules in
    rw r (with_others_of_one (λ bs.
    let f = decided (goal.at.returns-in_err-self c).In_ok-sending bs in
    ring_refuses e.numbers e.tables e.endpoints bs c.args.tx.now _ (send_of (joined e.numbers e.tables e.endpoints bs) (length c.args.tx.now) c.args.start c.args.address c.args.k) _ 0 c.args.address c.args.start _ _ _ _ f.0 refl (rw f.1 refl) c.announce_data.ensures _ c.in_err-self.was) refl)

pub returns : goal.returns
returns c =
    let e = c.args.self.now in
    with_others_of_one (λ bs.
    let f = decided (goal.at.returns c).In_ok-sending bs in
    let z = ring_takes e.numbers e.tables e.endpoints bs c.args.tx.now _ (send_of (joined e.numbers e.tables e.endpoints bs) (length c.args.tx.now) c.args.start c.args.address c.args.k) _ 0 c.args.address c.args.start _ _ _ _ f.0 refl (rw f.1 refl) c.announce_data.ensures _ c.in_ok-self.was in
    let t = sent e.numbers e.tables e.endpoints (length c.args.tx.now) c.args.start c.args.address c.args.k _ bs (c.send.ensures bs) _ c.in_ok-sending.was _ _ c.free_run.ensures c.take_run.ensures in
    (ap (λ (e : End). accepted e (control 0 c.in_ok-sending.sending.address c.args.start)) (joined-writing e.numbers _ e.endpoints bs c.in_ok-self.field-0 _ t) ∙ rw f.1 z.0, z.1)) refl
