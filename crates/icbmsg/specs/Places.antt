-- Where the parts that calls hand out lie, and where calls write.
use Rattle.std.specs.Prelude.{ℕ, ◌+◌, ◌*◌, ◌≤◌, ◌<◌, ◌≡◌, ◌≢◌, List, [], ◌++◌, eqb, length}
use Rattle.wire.specs.Choice.{pick}
use Rattle.wire.specs.Bytes.{Within, Inside}
use Rattle.icmsg.specs.Laws.{InRing, InWritersPart}
use Rattle.blocks.specs.Tables.{entry}
use Rattle.blocks.specs.WellFormed.{Live}
use Rattle.blocks.specs.declared.Entry.{Entry}
use Rattle.icbmsg.specs.Regions.{block_count, block_size, blocks_offset}
use Rattle.icbmsg.specs.Outcome.{Given, nothing, a_length, dropped, a_run, control, delivery, Outcome}
use Rattle.icbmsg.specs.Ends.{block_at}
use Rattle.icbmsg.specs.Rings.{transmit_ring, receive_ring}
use Rattle.icbmsg.specs.Messages.{need}
use Rattle.icbmsg.specs.Calls.{Call, start, push, pull, reserve, room, send, drop, arrival, view, done, register, ask_room, ask_view, lent, step}
use Rattle.icbmsg.specs.Theorems.{Reached, Part, no_part, length_part, pull_part, message_part, part_of}
use Rattle.icbmsg.specs.Ledger.{Side, transmit, receive, region_of, table}
use Rattle.icbmsg.specs.declared.Region.{Region}
use Rattle.icbmsg.specs.End.{End}

-- ---- parts

-- It is a part of the message at s, whose run is live: after the header, before the end of the last block, and inside the region's blocks.
pub record InMessage (g : Region) (t : List Entry) (s : ℕ) (o : Outcome) : Type 0 where
  pub live : Live t s
  pub after_header : block_at g s + 4 ≤ o.begin
  pub before_end : o.begin + o.size ≤ block_at g s + (entry t s).count * block_size g
  pub first_block : blocks_offset g ≤ o.begin
  pub last_block : o.begin + o.size ≤ blocks_offset g + block_count g * block_size g

abbrev pub PartIn : End → Part → Outcome → Type 0
PartIn e no_part o = (o.begin ≡ 0) × (o.size ≡ 0)
PartIn e length_part o = (o.begin ≡ 0) × (o.size ≡ 0)
PartIn e pull_part o = (o.begin ≡ 0) × (o.size ≡ 0)
PartIn e (message_part d s) o = InMessage (region_of d e) (table d e) s o

-- The part that an accepted call hands out lies inside its own message: a room's in the transmit region, a view's in the receive
-- region. Every other call hands out none.
abbrev pub PartsInside : Type 0
PartsInside = (e : End) (c : Call) → (step e c).number ≡ 0 → PartIn e (part_of c) (step e c)

-- byte p is in the part that is handed out
abbrev pub InPart : Outcome → ℕ → Type 0
InPart o p = (o.begin ≤ p) × (p < o.begin + o.size)

-- the call for the part of the message at s, with these bytes lent
abbrev pub asks_for : Side → List ℕ → ℕ → Call
asks_for transmit tx s = room tx s
asks_for receive rx s = view rx s

-- rooms of different starts share no byte, and neither do views
abbrev pub PartsApart : Type 0
PartsApart =
    (e : End) → Reached e → (d : Side) (s s' : ℕ) → s ≢ s' → (lent lent' : List ℕ) (p : ℕ) → InPart (step e (asks_for d lent s)) p → InPart (step e (asks_for d lent' s')) p → ⊥

-- ---- writes

-- where a call writes: nowhere; on the ring that it starts or receives on; a packet, to the transmit ring's data and its write index; or first in
-- the n transmit blocks at s, which are its message's, and then the packet
pub data Area : Type 0 where
  no_area tx_ring rx_ring a_packet : Area
  run_and_packet : (s n : ℕ) → Area

-- a register that answers 02 writes its binding to the blocks that it takes
abbrev pub register_area : End → List ℕ → Given → Area
register_area e n nothing = no_area
register_area e n (a_length k) = no_area
register_area e n (dropped m) = no_area
register_area e n (a_run s m) = no_area
register_area e n (control k a s) = pick (eqb k 2) (run_and_packet s (need e (length n + 1))) a_packet
register_area e n (delivery a b k) = no_area

unfoldable pub area_of : End → Call → Given → Area
area_of e (start tx) g = tx_ring
area_of e (push tx c) g = a_packet
area_of e (pull rx b) g = rx_ring
area_of e (reserve k) g = no_area
area_of e (room tx s) g = no_area
area_of e (send tx s a k) g = run_and_packet s (need e k)
area_of e (drop s) g = no_area
area_of e (arrival rx m) g = no_area
area_of e (view rx s) g = no_area
area_of e (done tx s) g = a_packet
area_of e (register tx n) g = register_area e n g
area_of e (ask_room s n) g = no_area
area_of e (ask_view s n) g = no_area

-- all of it lies in the n transmit blocks at s
abbrev pub InRunAt : End → ℕ → ℕ → List (ℕ × ℕ) → Type 0
InRunAt e s n ws = Within (block_at e.tx s) (block_at e.tx s + n * block_size e.tx) ws

-- some writes to the message, and then those of the packet
pub record MessageThenPacket (e : End) (s n : ℕ) (ts : List (ℕ × ℕ)) : Type 0 where
  pub message : List (ℕ × ℕ)
  pub packet : List (ℕ × ℕ)
  pub all : ts ≡ message ++ packet
  pub in_run : InRunAt e s n message
  pub on_ring : InWritersPart (transmit_ring e) packet

-- what is written to the transmit and to the receive region lies there
abbrev pub InArea : End → Area → List (ℕ × ℕ) → List (ℕ × ℕ) → Type 0
InArea e no_area ts rs = (ts ≡ []) × (rs ≡ [])
InArea e tx_ring ts rs = InRing (transmit_ring e) ts × (rs ≡ [])
InArea e rx_ring ts rs = (ts ≡ []) × InRing (receive_ring e) rs
InArea e a_packet ts rs = InWritersPart (transmit_ring e) ts × (rs ≡ [])
InArea e (run_and_packet s n) ts rs = MessageThenPacket e s n ts × (rs ≡ [])

-- f tells the area by what comes with the answer; the slices that are lent have t, r and b bytes
pub record WritesIn (e : End) (f : Given → Area) (t r b : ℕ) (o : Outcome) : Type 0 where
  pub area : InArea e (f o.given) o.tx o.rx
  pub tx : Inside t o.tx
  pub rx : Inside r o.rx
  pub buffer : Inside b o.buffer

-- Every write of every call, at any end, lies in the call's area, and inside the slice that it goes to. What is written beside the
-- regions goes to the buffer; only a pull is lent one.
abbrev pub WritesInside : Type 0
WritesInside = (e : End) (c : Call) → WritesIn e (area_of e c) (length (lent c).tx) (length (lent c).rx) (length (lent c).buffer) (step e c)
