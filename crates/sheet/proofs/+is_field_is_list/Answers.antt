use Rattle.std.proofs.Common.{arith, sym, ap, not, ◌∙◌}
use Rattle.sheet.proofs.Tags.{holds-none}
use Rattle.sheet.proofs.Walks.{list_none, walk_begins, walked_all, walked_odd, walked_again, walked_broken, walked_on, field_past, field_leaf, field_group}
use Rattle.sheet.proofs.+is_field_is_list.Goals as goal

pub is_field-returns-then-e-begin : goal.is_field-returns-then-e-begin
is_field-returns-then-e-begin t c = sym (field_past _ _ _ _ _ _ (omega arith) c.if-e-begin.true)

pub is_field-returns-then-tag-lt-FIRST_GROUP : goal.is_field-returns-then-tag-lt-FIRST_GROUP
is_field-returns-then-tag-lt-FIRST_GROUP t c = sym (field_leaf _ _ _ _ _ _ (omega arith) c.if-e-begin.false c.if-tag-lt-FIRST_GROUP.true)

pub is_field-returns : goal.is_field-returns
is_field-returns t c = c.is_list.ensures ∙ sym (field_group _ _ _ _ _ _ (omega arith) c.if-e-begin.false c.if-tag-lt-FIRST_GROUP.false (omega arith))

pub is_list-returns-then-lists-eq0 : goal.is_list-returns-then-lists-eq0
is_list-returns-then-lists-eq0 t c = sym (list_none _ _ c.if-lists-eq0.true)

pub is_list-loop-p-init : goal.is_list-loop-p-init
is_list-loop-p-init t c = walk_begins _ _ _ _ _ (omega arith) (omega arith) holds-none

pub is_list-returns-then-e-p-lt2 : goal.is_list-returns-then-e-p-lt2
is_list-returns-then-e-p-lt2 t c = sym (walked_odd c.loop-p.invariant (omega arith) c.loop-p-test.true c.if-e-p-lt2.true)

pub is_list-returns-then-has_bit : goal.is_list-returns-then-has_bit
is_list-returns-then-has_bit t c =
    sym
    (walked_again c.loop-p.invariant (omega arith) (omega arith) _ _ c.from-tag.ensures c.from-size.ensures (omega arith) _ c.has_bit.ensures c.if-has_bit.true)

pub is_list-returns-then-not-is_field : goal.is_list-returns-then-not-is_field
is_list-returns-then-not-is_field t c =
    sym
    (walked_broken c.loop-p.invariant (omega arith) (omega arith) _ _ c.from-tag.ensures c.from-size.ensures (omega arith) _ c.is_field.ensures (ap not c.if-not-is_field.true))

pub is_list-loop-p-preserved : goal.is_list-loop-p-preserved
is_list-loop-p-preserved t c =
    walked_on c.loop-p.invariant (omega arith) (omega arith) _ _ c.from-tag.ensures c.from-size.ensures (omega arith) _
    c.is_field.ensures _ c.has_bit.ensures c.if-has_bit.false _ c.with_bit-more.ensures
    (ap not c.if-not-is_field.false)

pub is_list-returns : goal.is_list-returns
is_list-returns t c = sym (walked_all c.loop-p.invariant c.loop-p-test.false)
