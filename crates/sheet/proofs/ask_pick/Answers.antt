use Rattle.sheet.specs.Picks.{pick_of}
use Rattle.sheet.proofs.Walks.{was_true, was_false}
use Rattle.sheet.proofs.Picks.{picked-by_hand, picked-incoming, picked-nowhere}
use mathlib.Core.Bool.{not}
use mathlib.Core.Path.{ap}
use Rattle.sheet.proofs.ask_pick.Goals as goal

pub returns-then-not-is_path : goal.returns-then-not-is_path
unfolding pick_of
returns-then-not-is_path c = rw (was_false _ _ c.is_path.ensures (ap not c.if-not-is_path.true))

pub returns-then-not-is_sheet : goal.returns-then-not-is_sheet
unfolding pick_of
returns-then-not-is_sheet c =
    rw (was_true _ _ c.is_path.ensures (ap not c.if-not-is_path.false), was_false _ _ c.is_sheet.ensures (ap not c.if-not-is_sheet.true))

pub returns-then-not-is_sheet-2 : goal.returns-then-not-is_sheet-2
unfolding pick_of
returns-then-not-is_sheet-2 c =
    rw (
      was_true _ _ c.is_path.ensures (ap not c.if-not-is_path.false),
      was_true _ _ c.is_sheet.ensures (ap not c.if-not-is_sheet.false),
      was_false _ _ c.is_sheet-2.ensures (ap not c.if-not-is_sheet-2.true),
    )

pub returns-in-Some : goal.returns-in-Some
returns-in-Some c =
    picked-by_hand _ _ _
    (was_true _ _ c.is_path.ensures (ap not c.if-not-is_path.false))
    (was_true _ _ c.is_sheet.ensures (ap not c.if-not-is_sheet.false))
    (was_true _ _ c.is_sheet-2.ensures (ap not c.if-not-is_sheet-2.false))
    _ _ _ c.lookup.ensures c.in-Some.is

pub returns-in-None : goal.returns-in-None
returns-in-None c =
    picked-nowhere _ _ _
    (was_true _ _ c.is_path.ensures (ap not c.if-not-is_path.false))
    (was_true _ _ c.is_sheet.ensures (ap not c.if-not-is_sheet.false))
    (was_true _ _ c.is_sheet-2.ensures (ap not c.if-not-is_sheet-2.false))
    _ c.lookup.ensures c.in_default.is _ c.lookup-2.ensures c.in-None.is

pub returns-in-Some-lookup : goal.returns-in-Some-lookup
returns-in-Some-lookup c =
    picked-incoming _ _ _
    (was_true _ _ c.is_path.ensures (ap not c.if-not-is_path.false))
    (was_true _ _ c.is_sheet.ensures (ap not c.if-not-is_sheet.false))
    (was_true _ _ c.is_sheet-2.ensures (ap not c.if-not-is_sheet-2.false))
    _ c.lookup.ensures c.in_default.is _ c.lookup-2.ensures _ _ c.in-Some-lookup.is
