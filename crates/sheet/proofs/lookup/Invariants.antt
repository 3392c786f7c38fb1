use Rattle.sheet.proofs.Paths.{Followed}
use Rattle.sheet.proofs.lookup.Given as goal

abbrev pub invariant-loop-tag : goal.invariant-loop-tag
invariant-loop-tag l = Followed l.s l.path l.at.begin l.at.size l.tag-index
