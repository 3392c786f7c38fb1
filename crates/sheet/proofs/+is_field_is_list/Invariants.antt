use Rattle.std.proofs.Common.{◌+◌, ◌-◌}
use Rattle.sheet.proofs.Walks.{Walked}
use Rattle.sheet.proofs.+is_field_is_list.Given as goal

-- how many lists are left, twice: a list hands the number on to its fields, and a field one less to its list
abbrev pub decreases-is_field : goal.decreases-is_field
decreases-is_field l = l.lists + l.lists

abbrev pub decreases-is_list : goal.decreases-is_list
decreases-is_list l = l.lists + l.lists + 1

abbrev pub invariant-is_list-loop-p : goal.invariant-is_list-loop-p
invariant-is_list-loop-p l = Walked l.s l.lists l.from l.e l.seen l.p

abbrev pub decreases-is_list-loop-p : goal.decreases-is_list-loop-p
decreases-is_list-loop-p l = l.e - l.p
