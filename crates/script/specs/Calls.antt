-- What a record does (docs/SCRIPT.md).
use Rattle.std.specs.Prelude.{ℕ, ◌≡◌, List, length, take, drop as dropped}
use Rattle.wire.specs.Bytes.{straight, writes, wrote}
use Rattle.icbmsg.specs.Outcome.{nothing as none, Outcome}
use Rattle.icbmsg.specs.Calls.{Call as EndCall, start, push, pull, reserve, room, send, drop, arrival, view, done, register, ask_room, ask_view, step}
use Rattle.icbmsg.specs.End.{End}
use Rattle.link.specs.Answers.{end_of}
use Rattle.script.specs.Records.{number_at}
use Rattle.script.specs.Rows.{reply, reply_of}
use Rattle.script.specs.declared.kinds.CallKind.{CallKind}
use Rattle.script.specs.declared.kinds.CallKind.TheVariants.{Arrival, Register, Reserve, Send, Drop, Done, Push, Start, Pull, Room, View, RoomQuestion, ViewQuestion}
use Rattle.script.specs.declared.kinds.Kind.{Kind}
use Rattle.script.specs.declared.kinds.Kind.TheVariants.{Call, WriteRx, WriteTx, Lend}
use Rattle.script.specs.declared.calls.Lent.{Lent}
use Rattle.link.specs.declared.End.{End as CodeEnd}

-- the call of a record with the body b; tx and rx are the lent bytes of the regions, and of the buffer a pull is lent the first
abbrev pub call_of : CallKind → List ℕ → List ℕ → List ℕ → List ℕ → EndCall
call_of Arrival b tx rx buffer = arrival rx b
call_of Register b tx rx buffer = register tx b
call_of Reserve b tx rx buffer = reserve (number_at 4 b 0)
call_of Send b tx rx buffer = send tx (number_at 4 b 0) (number_at 4 b 4) (number_at 4 b 8)
call_of Drop b tx rx buffer = drop (number_at 4 b 0)
call_of Done b tx rx buffer = done tx (number_at 4 b 0)
call_of Push b tx rx buffer = push tx b
call_of Start b tx rx buffer = start tx
call_of Pull b tx rx buffer = pull rx (take (number_at 2 b 0) buffer)
call_of Room b tx rx buffer = room tx (number_at 4 b 0)
call_of View b tx rx buffer = view rx (number_at 4 b 0)
call_of RoomQuestion b tx rx buffer = ask_room (number_at 4 b 0) (number_at 4 b 4)
call_of ViewQuestion b tx rx buffer = ask_view (number_at 4 b 0) (number_at 4 b 4)

abbrev pub call_outcome : End → CallKind → List ℕ → List ℕ → List ℕ → List ℕ → Outcome
call_outcome e k b tx rx buffer = step e (call_of k b tx rx buffer)

-- what a record answers, and what it leaves beside the memory: the end, and how many first bytes of the regions later calls are lent
pub record Step : Type 0 where
  pub reply : List ℕ
  pub end : End
  pub lent_tx : ℕ
  pub lent_rx : ℕ

abbrev pub nothing : End → ℕ → ℕ → Step
nothing e n m = record { reply = reply 0 none 0 0; end = e; lent_tx = n; lent_rx = m }

abbrev pub called : Outcome → ℕ → ℕ → Step
called o n m = record { reply = reply_of o; end = o.next; lent_tx = n; lent_rx = m }

-- a record with the body b, where calls are lent n and m bytes, or as many as there are
abbrev pub record_step : Kind → List ℕ → End → ℕ → ℕ → List ℕ → List ℕ → List ℕ → Step
record_step (Call k) b e n m tx rx buffer = called (call_outcome e k b (take n tx) (take m rx) buffer) n m
record_step WriteRx b e n m tx rx buffer = nothing e n m
record_step WriteTx b e n m tx rx buffer = nothing e n m
record_step Lend b e n m tx rx buffer = nothing e (number_at 4 b 0) (number_at 4 b 4)

-- the body of a write: an offset of four bytes, and the bytes; what the memory has of it changes
abbrev pub overwritten : List ℕ → List ℕ → List ℕ
overwritten l b = wrote l (writes (straight (number_at 4 b 0)) (dropped 4 b))

-- What a call leaves of the slices that it is lent, where its outcome is o. A room lends a part of the transmit bytes out for its caller to
-- write: of those after it, it is said how many there are.
pub record Wrote (k : CallKind) (o : Outcome) (tx rx buffer tx' rx' buffer' : List ℕ) : Type 0 where
  pub transmit : (k ≡ Room → ⊥) → tx' ≡ wrote tx o.tx
  pub as_many : length tx' ≡ length tx
  pub receive : rx' ≡ wrote rx o.rx
  pub buffered : buffer' ≡ wrote buffer o.buffer

-- what a record leaves of the memory, where calls are lent n and m bytes
abbrev pub Leaves : Kind → List ℕ → End → ℕ → ℕ → List ℕ → List ℕ → List ℕ → List ℕ → List ℕ → List ℕ → Type 0
Leaves (Call k) b e n m tx rx buffer tx' rx' buffer' = Wrote k (call_outcome e k b (take n tx) (take m rx) buffer) tx rx buffer tx' rx' buffer'
Leaves WriteRx b e n m tx rx buffer tx' rx' buffer' = (tx' ≡ tx) × (rx' ≡ overwritten rx b) × (buffer' ≡ buffer)
Leaves WriteTx b e n m tx rx buffer tx' rx' buffer' = (tx' ≡ overwritten tx b) × (rx' ≡ rx) × (buffer' ≡ buffer)
Leaves Lend b e n m tx rx buffer tx' rx' buffer' = (tx' ≡ tx) × (rx' ≡ rx) × (buffer' ≡ buffer)

-- ---- what the code answers

-- the reply, and the end that is left, are those of an outcome
pub record RanAs (r : List ℕ) (e : CodeEnd) (o : Outcome) : Type 0 where
  pub reply : r ≡ reply_of o
  pub end : end_of e ≡ o.next

abbrev pub step_of : List ℕ → CodeEnd → Lent → Step
step_of r e l = record { reply = r; end = end_of e; lent_tx = l.tx; lent_rx = l.rx }
