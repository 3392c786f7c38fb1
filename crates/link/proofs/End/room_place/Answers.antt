use mathlib.Core.Bool.{true}
use mathlib.Core.List.{List, []}
use mathlib.Core.Path.{◌≡◌, sym, ◌∙◌}
use native.Mathlib.Omega.{arith}
use Rattle.std.specs.Prelude.{Err}
use Rattle.std.proofs.Common.{rules}
use Rattle.blocks.specs.Tables.{entry, starts}
use Rattle.blocks.specs.declared.Use.TheVariants.{Reserved}
use Rattle.endpoints.specs.declared.Endpoint.{Endpoint}
use Rattle.endpoints.specs.declared.Binding.{Binding}
use Rattle.tables.specs.Compact.{table_of}
use Rattle.icbmsg.specs.Ends.{whole}
use Rattle.checks.specs.Parts.{joined}
use Rattle.checks.proofs.OpenSays.{whole_is}
use Rattle.checks.proofs.Runs.{run-refused, run-live, PartIn, room-part}
use Rattle.link.proofs.MessageCalls.{room-refused, room-placed}
use Rattle.link.proofs.End.room_place.Goals as goal
use Rattle.link.proofs.End.room_place.Goals.{After-is_whole-whole, In_ok-reserved}

lent : (c : After-is_whole-whole) (ps : List Endpoint) (bs : List Binding) → let e = c.args.self.now in c.is_whole-whole.result ≡ whole (joined e.numbers e.tables ps bs) e.numbers.tx c.args.lent
lent c ps bs = let e = c.args.self.now in whole_is (joined e.numbers e.tables ps bs) e.numbers.tx c.args.lent _ c.is_whole-whole.ensures

run : (c : In_ok-reserved) → let e = c.args.self.now in
    (c.is_whole-whole.result ≡ true) × (starts Reserved e.numbers.tx.block_count (table_of e.tables 0) c.args.start ≡ true) × (c.in_ok-reserved.reserved ≡ entry (table_of e.tables 0) c.args.start)
run c = run-live _ _ _ _ _ c.live.ensures _ c.in_ok-reserved.was

part : (c : In_ok-reserved) → let e = c.args.self.now in PartIn e.numbers.tx c.args.start c.in_ok-reserved.reserved.count c.args.lent
part c =
    let e = joined c.args.self.now.numbers c.args.self.now.tables [] [] in
    let w : c.is_whole-whole.result ≡ whole e c.args.self.now.numbers.tx c.args.lent = whole_is e c.args.self.now.numbers.tx c.args.lent _ c.is_whole-whole.ensures in
    let r = run-live _ _ _ _ _ c.live.ensures _ c.in_ok-reserved.was in
    rw r.2 (room-part e c.args.lent c.args.start (sym w ∙ r.0) r.1)

pub overflow_mul-result : goal.overflow_mul-result
overflow_mul-result c = let p = part (goal.at.overflow_mul-result c).In_ok-reserved in omega (arith, p.product, p.most)

pub overflow_add-result : goal.overflow_add-result
overflow_add-result c = let p = part (goal.at.overflow_add-result c).In_ok-reserved in omega (arith, p.inside, p.most)

pub overflow_add-result-2 : goal.overflow_add-result-2
overflow_add-result-2 c = let p = part (goal.at.overflow_add-result-2 c).In_ok-reserved in omega (arith, p.inside, p.most, p.four)

pub overflow_mul-result-2 : goal.overflow_mul-result-2
overflow_mul-result-2 c = let p = part (goal.at.overflow_mul-result-2 c).In_ok-reserved in omega (arith, p.inside, p.most)

pub overflow_sub-result : goal.overflow_sub-result
overflow_sub-result c = let p = part (goal.at.overflow_sub-result c).In_ok-reserved in omega (arith, p.four)

pub returns-in_err-reserved : goal.returns-in_err-reserved
returns-in_err-reserved c = λ ps bs.
    let e = c.args.self.now in
    let r : c.from_residual.result ≡ Err c.in_err-reserved.field-0.0 = search rules in
    rw r (room-refused e.numbers e.tables c.args.lent c.args.start ps bs _ (lent (goal.at.returns-in_err-reserved c).After-is_whole-whole ps bs) c.in_err-reserved.field-0.0 (run-refused _ _ _ _ _ c.live.ensures _ c.in_err-reserved.was))

pub returns : goal.returns
returns c = λ ps bs. let e = c.args.self.now in room-placed e.numbers e.tables c.args.lent c.args.start ps bs _ (lent (goal.at.returns c).After-is_whole-whole ps bs) _ (run (goal.at.returns c).In_ok-reserved)
