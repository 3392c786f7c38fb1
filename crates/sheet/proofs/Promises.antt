-- All that is promised of sheets, from the proofs.
use Rattle.sheet.specs.Promises.{Promises}
use Rattle.sheet.proofs.Picks.{hand_set_first, checks_in_order, refusals_empty, given_inside}
use Rattle.sheet.proofs.Places.{found_inside, found_framed}
use Rattle.sheet.proofs.OnePlace.{one_place, groups_are_lists}
use Rattle.sheet.proofs.Trees.{trees_are_sheets, sheets_are_trees}
use Rattle.sheet.proofs.TreeValues.{finds_value, paths_reach, hand_set_value_first}

pub promises : Promises
promises =
    record {
      hand_set_first = hand_set_first;
      hand_set_value_first = hand_set_value_first;
      checks_in_order = checks_in_order;
      refusals_empty = refusals_empty;
      given_inside = given_inside;
      found_inside = found_inside;
      found_framed = found_framed;
      one_place = one_place;
      groups_are_lists = groups_are_lists;
      trees_are_sheets = trees_are_sheets;
      sheets_are_trees = sheets_are_trees;
      finds_value = finds_value;
      paths_reach = paths_reach;
    }
