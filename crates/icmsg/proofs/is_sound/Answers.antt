use mathlib.Core.Bool.{Bool, true, false, ◌&&◌}
use mathlib.Core.Path.{◌≡◌, refl}
use Rattle.icmsg.specs.Ring.{is_sound, in_rule}
use Rattle.icmsg.proofs.is_sound.Goals as goal

fours-together : (p q r : Bool) → ((p && q) && r) ≡ (p && (r && q))
fours-together true true true = refl
fours-together true true false = refl
fours-together true false true = refl
fours-together true false false = refl
fours-together false q r = refl

pub returns : goal.returns
unfolding is_sound in_rule
returns c = rw (fours-together _ _ _)
