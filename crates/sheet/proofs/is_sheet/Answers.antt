use lib.Seq.{take-length}
use borrow.Author.Tests.{le-leb, lt-leb}
use Rattle.sheet.specs.Sheets.{is_sheet}
use Rattle.sheet.proofs.is_sheet.Goals as goal

pub returns-then-s-gt-MOST_BYTES : goal.returns-then-s-gt-MOST_BYTES
unfolding is_sheet
returns-then-s-gt-MOST_BYTES c = rw (lt-leb _ 4096 c.if-s-gt-MOST_BYTES.true)

pub returns : goal.returns
unfolding is_sheet
returns c =
    rw (le-leb _ 4096 c.if-s-gt-MOST_BYTES.false) (rw (take-length c.args.s.now) at c.is_list.ensures)
