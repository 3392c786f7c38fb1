use native.Mathlib.Omega.{arith}
use Rattle.search.proofs.Tells.{other_bytes, too_many, none_asked, tells_nowhere, tells_start}
use Rattle.search.proofs.petrelknob_search.Goals as goal

pub returns-in_default : goal.returns-in_default
returns-in_default c = other_bytes _ _ _ c.in_default.ensures.cases

pub returns-then-block_count-gt-MAX_BLOCKS : goal.returns-then-block_count-gt-MAX_BLOCKS
returns-then-block_count-gt-MAX_BLOCKS c = too_many _ _ _ c.in-Some.ensures.cases.long c.if-block_count-gt-MAX_BLOCKS.true

pub returns-then-n-eq0 : goal.returns-then-n-eq0
returns-then-n-eq0 c = none_asked _ _ _ c.in-Some.ensures.cases.long c.if-block_count-gt-MAX_BLOCKS.false c.if-n-eq0.true

pub returns-in-None : goal.returns-in-None
returns-in-None c =
    let h = c.in-Some.ensures.cases in
    tells_nowhere _ _ _ h.long c.if-block_count-gt-MAX_BLOCKS.false (omega (arith, c.if-n-eq0.false)) _ _ (rw h.same at c.search-searched.ensures) c.in-None.is

pub returns-in-Some-found : goal.returns-in-Some-found
returns-in-Some-found c =
    let h = c.in-Some.ensures.cases in
    tells_start _ _ _ h.long c.if-block_count-gt-MAX_BLOCKS.false (omega (arith, c.if-n-eq0.false)) _ _ _ (rw h.same at c.search-searched.ensures) c.in-Some-found.is
