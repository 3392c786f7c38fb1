use Prim.Native.Nat.{◌+◌, ◌*◌, ◌≤◌}
use mathlib.Core.Bool.{true}
use mathlib.Core.Path.{◌≡◌, sym, ap, ◌∙◌}
use native.Mathlib.Omega.{arith}
use lib.ListN.{length}
use Rattle.wire.specs.Bytes.{bytes}
use Rattle.blocks.specs.Tables.{all_free, blocks_for}
use Rattle.tables.specs.Compact.{table_of}
use Rattle.icbmsg.specs.Arrivals.{size_at}
use Rattle.checks.specs.Measuring.{are_lent}
use Rattle.checks.proofs.Measuring.{Lent, lent_says, past_the_last, block_held, all_four, header-inside, need-inside}
use Rattle.checks.proofs.arrivals.measure.Goals as goal
use Rattle.checks.proofs.arrivals.measure.Goals.{After-all_free, After-least_blocks-n, After-read_u32-k, Else-block_count-s, Else-not-are_lent}

lent : (c : Else-not-are_lent) → let a = c.args in are_lent (length a.rx.now) a.g ≡ true
lent c = sym c.are_lent.ensures ∙ c.if-not-are_lent.false

says : (c : Else-not-are_lent) → let a = c.args in Lent (length a.rx.now) a.g
says c =
    let lent : let a = c.args in are_lent (length a.rx.now) a.g ≡ true = sym c.are_lent.ensures ∙ c.if-not-are_lent.false in
    lent_says _ c.args.g lent

-- the header lies in the lent bytes
header : (c : Else-block_count-s) → let a = c.args in a.g.blocks_offset + a.b * a.g.block_size + 4 ≤ length a.rx.now
header c =
    let says : let a = c.args in Lent (length a.rx.now) a.g = let lent : let a = c.args in are_lent (length a.rx.now) a.g ≡ true = sym c.are_lent.ensures ∙ c.if-not-are_lent.false in
    lent_says _ c.args.g lent in
    header-inside _ c.args.g _ says c.if-block_count-s.false

-- K
size : (c : After-read_u32-k) → let a = c.args in c.read_u32-k.result ≡ size_at a.g a.b a.rx.now
unfolding bytes
size c = c.read_u32-k.ensures

-- its blocks lie inside
need : (c : After-least_blocks-n) → let a = c.args in
    (1 ≤ c.least_blocks-n.result) × (a.b + c.least_blocks-n.result ≤ a.g.block_count) × (c.read_u32-k.result + 4 ≤ c.least_blocks-n.result * a.g.block_size)
need c =
    let says : let a = c.args in Lent (length a.rx.now) a.g = let lent : let a = c.args in are_lent (length a.rx.now) a.g ≡ true = sym c.are_lent.ensures ∙ c.if-not-are_lent.false in
    lent_says _ c.args.g lent in
    let a = c.args in need-inside _ a.g a.b _ _ says c.if-block_count-s.false c.if-block_count-s-2.false c.least_blocks-n.ensures

free : (c : After-all_free) → let a = c.args in c.all_free.result ≡ all_free (table_of a.t.now 1568) a.b (blocks_for a.g.block_size c.read_u32-k.result)
free c = let a = c.args in c.all_free.ensures ∙ ap (all_free (table_of a.t.now 1568) a.b) c.least_blocks-n.ensures

pub returns-then-block_count-s-2-clause-number : goal.returns-then-block_count-s-2-clause-number
returns-then-block_count-s-2-clause-number c =
    let a = c.args in
    let g = goal.at.returns-then-block_count-s-2-clause-number c in
    rw (← (size g.After-read_u32-k)) (past_the_last (length a.rx.now) a.g (table_of a.t.now 1568) a.b c.read_u32-k.result (lent g.Else-not-are_lent) c.if-block_count-s.false c.if-block_count-s-2.true)

pub all_free-requires : goal.all_free-requires
all_free-requires c = omega (arith, (need (goal.at.all_free-requires c).After-least_blocks-n).1, (says (goal.at.all_free-requires c).Else-not-are_lent).few)

pub returns-then-not-all_free-clause-number : goal.returns-then-not-all_free-clause-number
returns-then-not-all_free-clause-number c =
    let a = c.args in
    let g = goal.at.returns-then-not-all_free-clause-number c in
    rw (← (size g.After-read_u32-k)) (block_held (length a.rx.now) a.g (table_of a.t.now 1568) a.b c.read_u32-k.result (lent g.Else-not-are_lent) c.if-block_count-s.false c.if-block_count-s-2.false (sym (free g.After-all_free) ∙ c.if-not-all_free.true))

pub returns-clause-number : goal.returns-clause-number
returns-clause-number c =
    let a = c.args in
    let g = goal.at.returns-clause-number c in
    rw (← (size g.After-read_u32-k)) (all_four (length a.rx.now) a.g (table_of a.t.now 1568) a.b c.read_u32-k.result (lent g.Else-not-are_lent) c.if-block_count-s.false c.if-block_count-s-2.false (sym (free g.After-all_free) ∙ c.if-not-all_free.false))

pub returns-clause-size : goal.returns-clause-size
returns-clause-size c =
    let g = goal.at.returns-clause-size c in
    let k = size g.After-read_u32-k in
    let n = need g.After-least_blocks-n in
    (k, rw (← k) c.least_blocks-n.ensures, n.0, n.1, rw (← k) n.2)
