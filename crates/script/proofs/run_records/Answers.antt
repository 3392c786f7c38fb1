use Prim.Native.Nat.{ℕ, ◌+◌, ◌-◌, ◌≤◌}
use mathlib.Core.Bool.{true}
use mathlib.Core.Path.{◌≡◌, sym, ap, subst, ◌∙◌}
use native.Mathlib.Omega.{arith}
use lib.ListN.{length, take, drop}
use Rattle.script.specs.Records.{has, first_record}
use Rattle.script.specs.Script.{full, stops}
use Rattle.script.proofs.RowByRow.{whole-rest, one_row}
use Rattle.script.proofs.FirstRecord.{Found, record_found, record_inside, body-length}
use borrow.Author.Rules.{rules}
use Rattle.script.proofs.run_records.Goals as goal
use Rattle.script.proofs.run_records.Goals.{In-Some}

-- the record lies in the script, and the format has it
found : (c : In-Some) → let s = c.args.script.now in
    Found (take (length s - c.loop-out.at) (drop c.loop-out.at s)) c.in-Some.next.kind c.in-Some.next.length
found c = record_found _ _ _ (sym c.first_record.ensures ∙ c.in-Some.is)

fits : (c : In-Some) → c.loop-out.at + (c.in-Some.next.length + 3) ≤ length c.args.script.now
fits c =
    let found : let s = c.args.script.now in
    Found (take (length s - c.loop-out.at) (drop c.loop-out.at s)) c.in-Some.next.kind c.in-Some.next.length = record_found _ _ _ (sym c.first_record.ensures ∙ c.in-Some.is) in
    record_inside c.args.script.now c.loop-out.at c.in-Some.next.length c.loop-out.invariant.1 found.inside

pub loop-out-init : goal.loop-out-init
loop-out-init c = ((λ r h. h), search rules, search rules, search rules, search rules, search rules, search rules, search rules)

pub returns-in_default : goal.returns-in_default
returns-in_default c =
    let e = whole-rest c.args.script.now c.loop-out.at in
    record { rows = c.loop-out.invariant.0 _ (stops (ap first_record (sym e) ∙ sym c.first_record.ensures ∙ c.in_default.is)); fits = search rules }

pub overflow_add-at : goal.overflow_add-at
overflow_add-at c = omega (arith, fits (goal.at.overflow_add-at c).In-Some)

pub slice_bounds-run_record-end : goal.slice_bounds-run_record-end
slice_bounds-run_record-end c = omega (arith, fits (goal.at.slice_bounds-run_record-end c).In-Some)

pub run_record-requires : goal.run_record-requires
run_record-requires c =
    let t = c.loop-out-test.true in
    let f = found (goal.at.run_record-requires c).In-Some in
    (subst (λ (n : ℕ). has c.in-Some.next.kind n ≡ true) (sym (body-length c.args.script.now (c.loop-out.at + 3) c.in-Some.next.length (omega (arith, fits (goal.at.run_record-requires c).In-Some)))) f.body, omega arith)

pub overflow_add-written : goal.overflow_add-written
overflow_add-written c =
    let k = c.run_record.auto in
    let i = c.loop-out.invariant in
    let t = c.loop-out-test.true in
    omega arith

pub loop-out-smaller : goal.loop-out-smaller
loop-out-smaller c =
    let k = c.run_record.auto in
    let i = c.loop-out.invariant in
    let t = c.loop-out-test.true in
    omega arith

pub loop-out-preserved : goal.loop-out-preserved
loop-out-preserved c =
    let k = c.run_record.auto in
    let i = c.loop-out.invariant in
    let t = c.loop-out-test.true in
    let f = fits (goal.at.loop-out-preserved c).In-Some in
    let s = c.args.script.now in
    ((λ x h. c.loop-out.invariant.0 x (one_row s c.loop-out.at c.in-Some.next.kind c.in-Some.next.length c.loop-out.written c.loop-out.left c.run_record.new.left c.loop-out.tx c.loop-out.rx c.loop-out.buffer c.loop-out.out _ _ _ _ (sym c.first_record.ensures ∙ c.in-Some.is) (omega arith) c.run_record.ensures.memory c.run_record.ensures.left c.run_record.ensures.out x h)), omega arith, omega arith, omega arith, omega arith, omega arith, omega arith, omega arith)

pub returns : goal.returns
returns c =
    record { rows = c.loop-out.invariant.0 _ (full (omega arith)); fits = search rules }
