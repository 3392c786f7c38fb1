-- The outcome of each kind of call, by the numbers that the code has read; and how long its body is.
use Prim.Native.Nat.{ℕ, ◌≤◌}
use mathlib.Core.Bool.{true}
use mathlib.Core.Path.{◌≡◌, refl}
use mathlib.Core.List.{List}
use lib.ListN.{length, take}
use borrow.Author.Tests.{leb-true, eqb-true}
use Rattle.wire.specs.Reads.{answer}
use Rattle.icbmsg.specs.Rings.{start_of, push_rule}
use Rattle.icbmsg.specs.Messages.{reserve_of, room_of, send_rule, drop_of, view_of, done_rule, room_question, view_question}
use Rattle.icbmsg.specs.Registering.{register_rule}
use Rattle.icbmsg.specs.Arrivals.{arrival_rule}
use Rattle.icbmsg.specs.Calls.{rule, read_from, step, pull}
use Rattle.icbmsg.specs.End.{End}
use Rattle.script.specs.Records.{number_at, body_of, has}
use Rattle.script.specs.Calls.{call_outcome}
use Rattle.script.specs.declared.kinds.CallKind.TheVariants.{Arrival, Register, Reserve, Send, Drop, Done, Push, Start, Pull, Room, View, RoomQuestion, ViewQuestion}
use Rattle.script.specs.declared.kinds.Kind.{Kind}
use Rattle.script.specs.declared.kinds.Body.TheVariants.{Exactly, AtLeast}

-- ---- outcomes

module _ (e : End) (b tx rx buffer : List ℕ) where
  pub arrives : answer (arrival_rule e (length rx) b) rx ≡ call_outcome e Arrival b tx rx buffer
  unfolding step rule read_from
  arrives = refl

  pub registers : answer (register_rule e (length tx) b) tx ≡ call_outcome e Register b tx rx buffer
  unfolding step rule read_from
  registers = refl

  pub pushes : answer (push_rule e (length tx) b) tx ≡ call_outcome e Push b tx rx buffer
  unfolding step rule read_from
  pushes = refl

  pub starts : start_of e (length tx) ≡ call_outcome e Start b tx rx buffer
  unfolding step rule read_from
  starts = refl

  pub pulls : (n : ℕ) → n ≡ number_at 2 b 0 → step e (pull rx (take n buffer)) ≡ call_outcome e Pull b tx rx buffer
  pulls n h = rw h refl

  module _ (s : ℕ) (h : s ≡ number_at 4 b 0) where
    pub reserves : reserve_of e s ≡ call_outcome e Reserve b tx rx buffer
    unfolding step rule read_from
    reserves = rw h refl

    pub drops : drop_of e s ≡ call_outcome e Drop b tx rx buffer
    unfolding step rule read_from
    drops = rw h refl

    pub ends : answer (done_rule e (length tx) s) tx ≡ call_outcome e Done b tx rx buffer
    unfolding step rule read_from
    ends = rw h refl

    pub rooms : room_of e (length tx) s ≡ call_outcome e Room b tx rx buffer
    unfolding step rule read_from
    rooms = rw h refl

    pub views : view_of e (length rx) s ≡ call_outcome e View b tx rx buffer
    unfolding step rule read_from
    views = rw h refl

    module _ (n : ℕ) (k : n ≡ number_at 4 b 4) where
      pub sends : (m : ℕ) → m ≡ number_at 4 b 8 → answer (send_rule e (length tx) s n m) tx ≡ call_outcome e Send b tx rx buffer
      unfolding step rule read_from
      sends m l = rw (h, k, l) refl

      pub asks_room : room_question e s n ≡ call_outcome e RoomQuestion b tx rx buffer
      unfolding step rule read_from
      asks_room = rw (h, k) refl

      pub asks_view : view_question e s n ≡ call_outcome e ViewQuestion b tx rx buffer
      unfolding step rule read_from
      asks_view = rw (h, k) refl

-- ---- bodies

module _ (k : Kind) (n m : ℕ) (h : has k n ≡ true) where
  pub exactly : body_of k ≡ Exactly m → n ≡ m
  exactly q = eqb-true n m (rw q at h)

  pub at_least : body_of k ≡ AtLeast m → m ≤ n
  at_least q = leb-true m n (rw q at h)
