-- Rooms and views by their places.
use Prim.Native.Nat.{ℕ, ◌+◌, ◌≤◌}
use mathlib.Core.Bool.{Bool, true, false}
use mathlib.Core.Path.{◌≡◌, refl, sym, ap, ◌∙◌}
use mathlib.Core.List.{List}
use Rattle.std.specs.Prelude.{Result, Ok, Err}
use Rattle.refusal.specs.declared.Refusal.{Refusal}
use native.Mathlib.Omega.{arith}
use lib.ListN.{length, take, drop, length-take, length-drop}
use Rattle.blocks.specs.Tables.{starts, starts_data}
use Rattle.blocks.specs.declared.Use.TheVariants.{Reserved}
use Rattle.icbmsg.specs.Outcome.{Outcome, check}
use Rattle.icbmsg.specs.Ends.{whole}
use Rattle.icbmsg.specs.Messages.{room_of, view_of}
use Rattle.icbmsg.specs.End.{End}
use Rattle.link.specs.Answers.{place_of}
use Rattle.link.specs.declared.Place.{Place}
use Rattle.script.specs.Rows.{reply_of, placed_reply, size_at}

-- the part r that is handed out of the bytes l at the place o, as the code's place p says
module _ (p : Result Place Refusal) (e : End) (o : Outcome) (h : place_of p e ≡ o) (l r : List ℕ) (i : o.begin + o.size ≤ length l) (q : r ≡ take o.size (drop o.begin l)) where
  sized : (p : Result Place Refusal) → (place_of p e).size ≡ size_at p
  sized (Ok p) = refl
  sized (Err x) = refl

  told : (p : Result Place Refusal) → placed_reply p ≡ reply_of (place_of p e)
  told (Ok p) = refl
  told (Err x) = refl

  pub part-size : length r ≡ size_at p
  part-size =
      let s : length r ≡ o.size = rw q (simp (length-take, length-drop) (omega arith)) in
      s ∙ sym (ap (λ (x : Outcome). x.size) h) ∙ sized p

  pub part-reply : placed_reply p ≡ reply_of o
  part-reply = told p ∙ ap reply_of h

-- ---- neither changes the end

check-next : (b : Bool) (n : ℕ) (e : End) (o : Outcome) → o.next ≡ e → (check b n e o).next ≡ e
check-next true n e o h = h
check-next false n e o h = refl

pub room_next : (e : End) (n s : ℕ) → (room_of e n s).next ≡ e
unfolding room_of
room_next e n s = check-next (whole e e.tx n) 6 e _ (check-next (starts Reserved e.tx.block_count e.sent s) 25 e _ refl)

pub view-next : (e : End) (n s : ℕ) → (view_of e n s).next ≡ e
unfolding view_of
view-next e n s = check-next (whole e e.rx n) 6 e _ (check-next (starts_data e.rx.block_count e.rx.block_size e.held s) 25 e _ refl)
