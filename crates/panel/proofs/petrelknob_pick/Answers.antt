use mathlib.Core.Path.{ap, ◌∙◌}
use Rattle.sheet.proofs.Picks.{part_of}
use Rattle.panel.proofs.petrelknob_pick.Goals as goal

pub pick_numbers-numbers-requires : goal.pick_numbers-numbers-requires
pick_numbers-numbers-requires c = (part_of _ _ _ _ c.ask_pick-picked.ensures).1

pub returns : goal.returns
returns c =
    let e = c.ask_pick-picked.ensures in
    record { number = c.number.ensures ∙ ap (λ o. o.number) e; values = c.put_numbers.ensures ∙ rw (c.pick_numbers-numbers.ensures, e) }
