-- The opening and the records of a script (docs/SCRIPT.md). All numbers are little-endian.
use Rattle.std.specs.Prelude.{ℕ, ◌-◌, Bool, true, List, Option, Some, None, leb, ltb, eqb, length, get_or}
use Rattle.wire.specs.Choice.{pick}
use Rattle.wire.specs.Bytes.{from_little_endian, straight, bytes}
use Rattle.icbmsg.specs.declared.Opening.{Opening}
use Rattle.icbmsg.specs.declared.Bounds.{Bounds}
use Rattle.script.specs.declared.kinds.CallKind.{CallKind}
use Rattle.script.specs.declared.kinds.CallKind.TheVariants.{Arrival, Register, Reserve, Send, Drop, Done, Push, Start, Pull, Room, View, RoomQuestion, ViewQuestion}
use Rattle.script.specs.declared.kinds.Kind.{Kind}
use Rattle.script.specs.declared.kinds.Kind.TheVariants.{Call, WriteRx, WriteTx, Lend}
use Rattle.script.specs.declared.kinds.Body.{Body}
use Rattle.script.specs.declared.kinds.Body.TheVariants.{Any, Exactly, AtLeast}
use Rattle.script.specs.declared.records.Record.{Record}

-- the number of n bytes at p
abbrev pub number_at : ℕ → List ℕ → ℕ → ℕ
number_at n s p = from_little_endian (bytes s (straight p) n)

-- begin and end of the transmit region, of the receive region (4 each), both block counts and the alignment (2 each)
abbrev pub opening_of : List ℕ → Opening
opening_of s =
    record {
      alignment = number_at 2 s 20;
      tx = record { begin = number_at 4 s 0; end = number_at 4 s 4; block_count = number_at 2 s 16 };
      rx = record { begin = number_at 4 s 8; end = number_at 4 s 12; block_count = number_at 2 s 18 };
    }

unfoldable pub begun : List ℕ → Option Opening
begun s = pick (ltb (length s) 22) None (Some (opening_of s))

-- how many bytes a region has
abbrev pub bytes_of : Bounds → ℕ
bytes_of b = b.end - b.begin

-- the kind of records that a number stands for, where the format has it
unfoldable pub kind_of : ℕ → Option Kind
kind_of k =
    pick (eqb k 0) (Some (Call Arrival))
    (pick (eqb k 1) (Some (Call Register))
    (pick (eqb k 2) (Some (Call Reserve))
    (pick (eqb k 3) (Some (Call Send))
    (pick (eqb k 4) (Some (Call Drop))
    (pick (eqb k 5) (Some (Call Done))
    (pick (eqb k 6) (Some (Call Push))
    (pick (eqb k 16) (Some (Call Start))
    (pick (eqb k 17) (Some (Call Pull))
    (pick (eqb k 18) (Some (Call Room))
    (pick (eqb k 19) (Some (Call View))
    (pick (eqb k 20) (Some (Call RoomQuestion))
    (pick (eqb k 21) (Some (Call ViewQuestion))
    (pick (eqb k 32) (Some WriteRx)
    (pick (eqb k 33) (Some WriteTx)
    (pick (eqb k 34) (Some Lend)
    None)))))))))))))))

-- the body that records of a kind have
abbrev pub call_body : CallKind → Body
call_body Arrival = Any
call_body Register = Any
call_body Reserve = Exactly 4
call_body Send = Exactly 12
call_body Drop = Exactly 4
call_body Done = Exactly 4
call_body Push = Any
call_body Start = Exactly 0
call_body Pull = Exactly 2
call_body Room = Exactly 4
call_body View = Exactly 4
call_body RoomQuestion = Exactly 8
call_body ViewQuestion = Exactly 8

abbrev pub body_of : Kind → Body
body_of (Call k) = call_body k
body_of WriteRx = AtLeast 4
body_of WriteTx = AtLeast 4
body_of Lend = Exactly 8

abbrev pub admits : Body → ℕ → Bool
admits Any n = true
admits (Exactly m) n = eqb n m
admits (AtLeast m) n = leb m n

-- the format has records of this kind with a body of n bytes
abbrev pub has : Kind → ℕ → Bool
has k n = admits (body_of k) n

abbrev pub with_body : Option Kind → ℕ → Option Record
with_body None n = None
with_body (Some k) n = pick (has k n) (Some (record { kind = k; length = n })) None

-- the record that a list of bytes begins with: its kind (1), the length of its body (2), its body. None where it is not whole, and none that
-- the format does not have
unfoldable pub first_record : List ℕ → Option Record
first_record s =
    pick (ltb (length s) 3) None
    (pick (ltb (length s - 3) (number_at 2 s 1)) None
    (with_body (kind_of (get_or s 0 0)) (number_at 2 s 1)))
