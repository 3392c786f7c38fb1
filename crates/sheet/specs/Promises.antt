-- What is promised of sheets, in the order of docs/PROMISES.md. A pick ensures all of it, so that none can fall away unseen.
use Rattle.sheet.specs.Laws.{HandSetFirst, ChecksInOrder, RefusalsEmpty, GivenInside, FoundInside, FoundFramed, OnePlace, GroupsAreLists}
use Rattle.sheet.specs.TreeLaws.{TreesAreSheets, SheetsAreTrees, FindsValue, PathsReach, HandSetValueFirst}

pub record Promises : Type 0 where
  pub hand_set_first : HandSetFirst
  pub hand_set_value_first : HandSetValueFirst
  pub checks_in_order : ChecksInOrder
  pub refusals_empty : RefusalsEmpty
  pub given_inside : GivenInside
  -- a sheet, and a path in it
  pub found_inside : FoundInside
  pub found_framed : FoundFramed
  pub one_place : OnePlace
  pub groups_are_lists : GroupsAreLists
  -- which sheets there are
  pub trees_are_sheets : TreesAreSheets
  pub sheets_are_trees : SheetsAreTrees
  pub finds_value : FindsValue
  pub paths_reach : PathsReach
