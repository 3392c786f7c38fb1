use mathlib.Core.Path.{refl}
use borrow.Author.Tests.{eq-eqb, ne_eqb}
use Rattle.wire.specs.Bytes.{wrote}
use Rattle.unit.specs.Rules.{receive_of}
use Rattle.unit.proofs.Unit.receive.Goals as goal

pub returns-then-rx-self : goal.returns-then-rx-self
unfolding receive_of wrote
returns-then-rx-self c = rw (ne_eqb _ _ c.if-rx-self.true) (record { answer = refl; unit = refl; rx = refl; buffer = refl })

pub returns : goal.returns
unfolding receive_of
returns c =
    rw (eq-eqb _ _ c.if-rx-self.false, ← c.ring_of.ensures)
    (record { answer = c.receive-answer.ensures.answer; unit = rw (c.index_after-self.ensures, c.receive-answer.ensures.answer); rx = c.receive-answer.ensures.region; buffer = c.receive-answer.ensures.buffer })
