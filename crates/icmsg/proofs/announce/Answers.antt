use mathlib.Core.Bool.{true}
use mathlib.Core.Path.{◌≡◌, refl, sym, ap, ◌∙◌}
use mathlib.Core.List.{List, ◌++◌}
use native.Mathlib.Omega.{arith}
use Prim.Native.Nat.{ℕ, ◌+◌}
use lib.Dec.{leb}
use lib.ListN.{length}
use borrow.Author.Tests.{leb-true}
use Rattle.wire.specs.Bytes.{straight, bytes, writes, wrote}
use Rattle.wire.proofs.Positions.{length-wrote, wrote-append, bytes-all}
use Rattle.icmsg.specs.Rules.{push_rule, announce_rule}
use Rattle.icmsg.specs.Laws.{Sound}
use Rattle.icmsg.specs.declared.Ring.{Ring}
use Rattle.icmsg.proofs.Checks.{fit_refused, fit_accepted, refused_at}
use Rattle.icmsg.proofs.Indexes.{room_says}
use Rattle.icmsg.proofs.announce.Goals as goal
use Rattle.icmsg.proofs.announce.Goals.{Else-not-is_inside}

inside : (c : Else-not-is_inside) → let s = c.args in leb (s.at + length s.message.now) (length s.region.now) ≡ true
inside c = sym c.is_inside.ensures ∙ c.if-not-is_inside.false

-- the ring lies in the region with the message as it did before

sound_in : {n m : ℕ} {g : Ring} {i : ℕ} → Sound n g i → m ≡ n → Sound m g i
sound_in o e = rw e o

-- the message, then the packet

both-written : (s m : List ℕ) (p : ℕ) (ws : List (ℕ × ℕ)) → wrote (wrote s (writes (straight p) (bytes m (straight 0) (length m)))) ws ≡ wrote s (writes (straight p) m ++ ws)
both-written s m p ws = rw (bytes-all m) (sym (wrote-append s (writes (straight p) m) ws))

pub returns-then-not-is_inside : goal.returns-then-not-is_inside
unfolding announce_rule wrote
returns-then-not-is_inside c = rw (sym c.is_inside.ensures ∙ c.if-not-is_inside.true) (record { answer = refl; region = refl })

pub copy-requires : goal.copy-requires
copy-requires c = record { n_in_bounds = leb-true _ _ (inside (goal.at.copy-requires c).Else-not-is_inside); n_in_bounds_2 = omega arith }

pub put-requires : goal.put-requires
put-requires c =
    let h = room_says _ _ _ _ _ _ c.room.ensures c.in_ok-room.was in
    record { sound = sound_in h.0 (ap length c.copy.ensures ∙ length-wrote _ _); content_len_bound = (h.1.short, omega (arith, h.1.fits)) }

pub returns-in_err-room : goal.returns-in_err-room
unfolding announce_rule push_rule wrote
returns-in_err-room c =
    rw (inside (goal.at.returns-in_err-room c).Else-not-is_inside, fit_refused _ _ _ c.room.ensures _ c.in_err-room.was)
    (record { answer = refused_at _ _ c.from_residual.ensures.1; region = refl })

pub returns : goal.returns
unfolding announce_rule push_rule
returns c =
    rw (inside (goal.at.returns c).Else-not-is_inside, fit_accepted _ _ _ c.room.ensures c.in_ok-room.was)
    (record { answer = rw c.put.ensures.packet; region = rw c.copy.ensures at c.put.ensures.region ∙ both-written _ _ _ _ })
