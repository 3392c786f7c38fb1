-- How an initiator's binding is completed (docs/RULES.md, E4): by the first accepted message for its address, be it data or the release of the
-- binding. And whom data reaches.
use Rattle.std.specs.Prelude.{ℕ, ◌+◌, ◌≤◌, Bool, true, false, ◌&&◌, ◌||◌, ◌≡◌, ◌≢◌, List, [], ◌∷◌, ltb, eqb, length}
use Rattle.wire.specs.Choice.{pick}
use Rattle.blocks.specs.Names.{padded_name}
use Rattle.blocks.specs.Tables.{entry, run_entry, blocks_for}
use Rattle.blocks.specs.declared.Use.TheVariants.{SentBinding}
use Rattle.blocks.specs.declared.Entry.{Entry}
use Rattle.endpoints.specs.Endpoints.{has_address, bound_at, some_endpoint}
use Rattle.endpoints.specs.declared.Stage.TheVariants.{Waiting, Bound}
use Rattle.icbmsg.specs.Regions.{block_count, block_size}
use Rattle.icbmsg.specs.Outcome.{control, delivery, Outcome}
use Rattle.icbmsg.specs.Ends.{whole}
use Rattle.icbmsg.specs.Arrivals.{decode, size_at, fits_area, are_free}
use Rattle.icbmsg.specs.declared.Control.{Control}
use Rattle.icbmsg.specs.declared.Control.TheVariants.{TooShort, UnknownKind, DataSent, DataReleased, BindingSent, BindingReleased}
use Rattle.icbmsg.specs.Calls.{Call, start, push, pull, reserve, room, send, drop, arrival, view, done, register, ask_room, ask_view, step, run, left}
use Rattle.icbmsg.specs.Theorems.{Reached}
use Rattle.icbmsg.specs.Names.{endpoint_of, IsAnnounced}
use Rattle.icbmsg.specs.End.{End}

-- ---- what completes a binding, by the calls and their numbers alone

-- it completes the binding of address a: data for it, or its release
abbrev pub completes : ℕ → Control → Bool
completes a UnknownKind = false
completes a TooShort = false
completes a (DataSent x b) = eqb x a
completes a (DataReleased b) = false
completes a (BindingSent x b) = false
completes a (BindingReleased x b) = eqb x a

-- it releases the binding of address a
abbrev pub is_release : ℕ → Control → Bool
is_release a UnknownKind = false
is_release a TooShort = false
is_release a (DataSent x b) = false
is_release a (DataReleased b) = false
is_release a (BindingSent x b) = false
is_release a (BindingReleased x b) = eqb x a

-- the call is the arrival of a message that passes f
unfoldable pub arrives : (Control → Bool) → Call → Bool
arrives f (start tx) = false
arrives f (push tx c) = false
arrives f (pull rx b) = false
arrives f (reserve k) = false
arrives f (room tx s) = false
arrives f (send tx s a k) = false
arrives f (drop s) = false
arrives f (arrival rx m) = f (decode m)
arrives f (view rx s) = false
arrives f (done tx s) = false
arrives f (register tx n) = false
arrives f (ask_room s n) = false
arrives f (ask_view s n) = false

-- and its number n says accepted
abbrev pub arrived : (Control → Bool) → Call → ℕ → Bool
arrived f c n = eqb n 0 && arrives f c

-- one of these calls is an accepted arrival of a message that passes f
abbrev pub some_arrived : (Control → Bool) → List Call → List Outcome → Bool
some_arrived f [] os = false
some_arrived f (c ∷ cs) [] = false
some_arrived f (c ∷ cs) (o ∷ os) = arrived f c o.number || some_arrived f cs os

-- ---- what an initiator's registration comes to

abbrev pub IsBoundTo : End → List ℕ → ℕ → Type 0
IsBoundTo e n a = (i : ℕ) × (endpoint_of e.endpoints i ≡ record { stage = Bound; address = a; name = padded_name n })

-- The endpoint of name n and address a waits until its binding is completed, and is bound from then on. The binding's message x stays sent at
-- s until it is released, and none of that address is sent any more. That its blocks are free then is in the ledger (ByHistory).
pub record Registration (e : End) (n : List ℕ) (a s : ℕ) (x : Entry) (completed released : Bool) : Type 0 where
  pub index : ℕ
  pub endpoint : endpoint_of e.endpoints index ≡ record { stage = pick completed Bound Waiting; address = a; name = padded_name n }
  pub message : released ≡ false → entry e.sent s ≡ x
  pub gone : released ≡ true → (k : ℕ) → IsAnnounced e.sent k → (entry e.sent k).address ≡ a → ⊥

-- the message of a binding of address a: a name of l bytes and its zero
abbrev pub binding_run : End → ℕ → ℕ → Entry
binding_run e a l = run_entry SentBinding (blocks_for (block_size e.tx) (l + 1)) a (l + 1)

-- the end that a register and these calls behind it leave
abbrev pub since : End → List ℕ → List ℕ → List Call → End
since e tx n cs = left (step e (register tx n)).next cs

-- What holds from a register of the name n on that has answered 02 a s, whatever calls follow.
pub record Completes (e : End) (tx n : List ℕ) (a s : ℕ) : Type 0 where
  -- endpoint and message, by the calls that followed and their numbers
  pub by_history : (cs : List Call) → let os : List Outcome = run (step e (register tx n)).next cs in
      Registration (since e tx n cs) n a s (binding_run e a (length n)) (some_arrived (completes a) cs os) (some_arrived (is_release a) cs os)
  -- data for the address is delivered if it passes 16, 17 and 18: it is never refused with 15
  pub data_taken : (cs : List Call) (rx m : List ℕ) (b : ℕ) → let d : End = since e tx n cs in let k : ℕ = size_at d.rx b rx in
      decode m ≡ DataSent a b → whole d d.rx (length rx) ≡ true → ltb b (block_count d.rx) ≡ true → fits_area d.rx b k ≡ true → are_free d.held d.rx b k ≡ true →
      ((step d (arrival rx m)).number ≡ 0) × ((step d (arrival rx m)).given ≡ delivery a b k)
  pub never_15 : (cs : List Call) (rx m : List ℕ) (b : ℕ) → decode m ≡ DataSent a b → (step (since e tx n cs) (arrival rx m)).number ≢ 15
  -- once data has been delivered for the address, the endpoint is bound, whatever came before and comes after
  pub data_binds : (cs cs' : List Call) (rx m : List ℕ) (b k : ℕ) → let d : End = since e tx n cs in
      (step d (arrival rx m)).given ≡ delivery a b k → IsBoundTo (left (step d (arrival rx m)).next cs') n a
  -- send's question whether a bound endpoint has the address (B5) is answered by the same history
  pub may_send : (cs : List Call) → some_endpoint (bound_at a) (since e tx n cs).endpoints ≡ some_arrived (completes a) cs (run (step e (register tx n)).next cs)
  -- the release is accepted as long as none was, whether data has come or not
  pub release_taken : (cs : List Call) (rx m : List ℕ) → let d : End = since e tx n cs in
      some_arrived (is_release a) cs (run (step e (register tx n)).next cs) ≡ false → decode m ≡ BindingReleased a s → whole d d.rx (length rx) ≡ true →
      (step d (arrival rx m)).number ≡ 0
  -- and once only, at whatever block
  pub release_once : (cs : List Call) (rx m : List ℕ) (b : ℕ) → some_arrived (is_release a) cs (run (step e (register tx n)).next cs) ≡ true → decode m ≡ BindingReleased a b →
      (step (since e tx n cs) (arrival rx m)).number ≢ 0

abbrev pub BindingCompletes : Type 0
BindingCompletes = (e : End) → Reached e → (tx n : List ℕ) (a s : ℕ) → (step e (register tx n)).given ≡ control 2 a s → Completes e tx n a s

-- ---- whom data reaches, at any end

pub record DataReaches : Type 0 where
  -- 15 where no endpoint has the address
  pub nobody : (e : End) (rx m : List ℕ) (a b : ℕ) → decode m ≡ DataSent a b → whole e e.rx (length rx) ≡ true → a ≤ 0xFD →
      ((i : ℕ) → has_address e.initiator (endpoint_of e.endpoints i) ≡ true → (endpoint_of e.endpoints i).address ≡ a → ⊥) → (step e (arrival rx m)).number ≡ 15
  -- at a follower, where those that wait have none, data binds none
  pub follower : (e : End) (rx m : List ℕ) (a b : ℕ) → e.initiator ≡ false → decode m ≡ DataSent a b → (step e (arrival rx m)).next.endpoints ≡ e.endpoints
