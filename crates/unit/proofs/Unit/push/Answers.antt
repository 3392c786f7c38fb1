use mathlib.Core.Path.{refl}
use borrow.Author.Tests.{eq-eqb, ne_eqb}
use Rattle.wire.specs.Bytes.{wrote}
use Rattle.unit.specs.Rules.{push_of}
use Rattle.unit.proofs.Unit.push.Goals as goal

pub returns-then-tx-self : goal.returns-then-tx-self
unfolding push_of wrote
returns-then-tx-self c = rw (ne_eqb _ _ c.if-tx-self.true) (record { answer = refl; unit = refl; tx = refl })

pub returns : goal.returns
unfolding push_of
returns c =
    rw (eq-eqb _ _ c.if-tx-self.false, ← c.ring_of.ensures)
    (record { answer = c.push-answer.ensures.answer; unit = rw (c.index_after-self.ensures, c.push-answer.ensures.answer); tx = c.push-answer.ensures.region })
