use Prim.Native.Nat.{◌+◌, ◌≤◌}
use mathlib.Core.Path.{◌≡◌, refl, sym, ap, ◌∙◌}
use native.Mathlib.Omega.{arith}
use lib.ListN.{length, get_or}
use Rattle.std.proofs.Common.{rules}
use Rattle.blocks.specs.Search.{found_at}
use Rattle.blocks.proofs.Search.{ends_nowhere, ends_at, at-below}
use Rattle.wire.specs.Bytes.{wrote}
use Rattle.endpoints.specs.Endpoints.{no_binding, binding_at, holds_as}
use Rattle.icbmsg.specs.Outcome.{Outcome, without_writes}
use Rattle.link.specs.Answers.{end_of}
use Rattle.link.specs.Parts.{behind_ring}
use Rattle.link.proofs.Clauses.{both_said}
use Rattle.link.proofs.PushCalls.{not_to_push}
use Rattle.link.proofs.RegisterCalls.{tx_sound, follow_waits, follow_binds, holds_says}
use Rattle.link.proofs.End.follow.Goals as goal
use Rattle.link.proofs.End.follow.Goals.{In-Some}

place : (c : In-Some) → c.in-Some.j + 1 ≤ 8
place c = at-below _ 1 8 _ c.find_stored.ensures.1 c.in-Some.is

found : (c : In-Some) → let e = c.args.self.now in binding_at (holds_as e.numbers.rx.block_count c.args.kept) e.bindings ≡ found_at c.in-Some.j
found c = ends_at _ _ c.find_stored.ensures.0 _ c.in-Some.is

pub bind_stored-requires : goal.bind_stored-requires
bind_stored-requires c =
    let e = c.args.self.now in
    let i = (goal.at.bind_stored-requires c).In-Some in
    let n : length e.bindings ≡ 8 = search rules in
    let z = holds_says e.bindings e.numbers.rx.block_count c.args.kept c.in-Some.j no_binding (found i) (omega (arith, place i, n)) (tx_sound e.numbers c.requires.0).1.few in
    (c.requires.1, c.requires.2, omega (arith, place i), z.1, z.2)

pub returns-in-None : goal.returns-in-None
returns-in-None c =
    let e = c.args.self.now in
    let q = follow_waits e.numbers e.tables e.bindings c.args.kept c.args.i c.args.name.now e.endpoints c.requires.1 (ends_nowhere _ _ c.find_stored.ensures.0 c.in-None.is) in
    both_said (not_to_push (end_of e) _ c.args.tx.now _ (sym q))

pub returns-in-Some : goal.returns-in-Some
returns-in-Some c =
    let e = c.args.self.now in
    let q = follow_binds e.numbers e.tables e.bindings c.args.kept c.args.i c.args.name.now e.endpoints c.requires.1 _ (get_or e.bindings c.in-Some.j no_binding) (found (goal.at.returns-in-Some c).In-Some) refl in
    record {
      answer = c.bind_stored.ensures.answer ∙ ap (λ (o : Outcome). without_writes (behind_ring (end_of e) c.args.tx.now o)) (sym q);
      tx = c.bind_stored.ensures.tx ∙ ap (λ (o : Outcome). wrote c.args.tx.now (behind_ring (end_of e) c.args.tx.now o).tx) (sym q);
    }
