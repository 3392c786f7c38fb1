-- What holds of every end, and of every end reached from an opening by any calls with any bytes lent. Proofs: proofs/.
use Rattle.std.specs.Prelude.{ℕ, ◌+◌, ◌*◌, ◌≤◌, ◌<◌, true, false, ◌&&◌, ◌≡◌, ◌≢◌, ◌↔◌, List, [], ◌∷◌, eqb, length}
use Rattle.wire.specs.Bytes.{same}
use Rattle.wire.specs.Reads.{answer}
use Rattle.icmsg.specs.Ring.{write_index_at, index_at, used}
use Rattle.icmsg.specs.Rules.{read_to}
use Rattle.icmsg.specs.declared.Ring.{Ring}
use Rattle.blocks.specs.Search.{found_at}
use Rattle.blocks.specs.Tables.{entry, starts, starts_data, run_entry, blocks_for, in_use}
use Rattle.blocks.specs.Names.{padded_name}
use Rattle.blocks.specs.WellFormed.{Live, InRun, IsFree}
use Rattle.blocks.specs.declared.Use.TheVariants.{Free, Reserved, SentData, SentBinding, ReceivedData}
use Rattle.blocks.specs.declared.Entry.{Entry}
use Rattle.endpoints.specs.Endpoints.{at, is_unused, registered, endpoint_at, some_endpoint, uses, unused_from, holds, good_name}
use Rattle.endpoints.specs.declared.Endpoint.{Endpoint}
use Rattle.icbmsg.specs.Regions.{block_count, block_size, data_length}
use Rattle.icbmsg.specs.Outcome.{Given, nothing, a_length, Outcome, refused_with, dropped_to, refused}
use Rattle.icbmsg.specs.Ends.{is_open, whole, with_read}
use Rattle.icbmsg.specs.Rings.{receive_ring, all_or_nothing}
use Rattle.icbmsg.specs.Opening.{opening}
use Rattle.icbmsg.specs.declared.Opening.{Opening}
use Rattle.icbmsg.specs.Messages.{need, reservation}
use Rattle.icbmsg.specs.Registering.{announcement}
use Rattle.icbmsg.specs.Calls.{Call, start, push, pull, reserve, room, send, drop, arrival, view, done, register, ask_room, ask_view, step, left}
use Rattle.icbmsg.specs.Ledger.{Side, transmit, receive, table, RunChange, no_change, takes, trims, frees, run_change}
use Rattle.icbmsg.specs.WellFormed.{binding_of, Separate}
use Rattle.icbmsg.specs.End.{End}

-- ---- ends that are reached

-- what an opening gives is reached, and what a call leaves of an end that is
pub data Reached : End → Type 0 where
  opened : (o : Opening) → Reached (opening o).next
  called : {e : End} (c : Call) → Reached e → Reached (step e c).next

-- what a call hands out beside its number: the length of a ring call, which is a pull or not; a part of the message at s (a room on the transmit
-- side, a view on the receive side); or neither
pub data Part : Type 0 where
  no_part length_part pull_part : Part
  message_part : (d : Side) (s : ℕ) → Part

abbrev pub refused_given : Part → Given
refused_given no_part = nothing
refused_given length_part = a_length 0
refused_given pull_part = a_length 0
refused_given (message_part d s) = nothing

unfoldable pub part_of : Call → Part
part_of (start tx) = length_part
part_of (push tx c) = length_part
part_of (pull rx b) = pull_part
part_of (reserve k) = no_part
part_of (room tx s) = message_part transmit s
part_of (send tx s a k) = no_part
part_of (drop s) = no_part
part_of (arrival rx m) = no_part
part_of (view rx s) = message_part receive s
part_of (done tx s) = no_part
part_of (register tx n) = no_part
part_of (ask_room s n) = no_part
part_of (ask_view s n) = no_part

-- ---- D1: refusals

pub record Refusals : Type 0 where
  -- An outcome whose number is not 0 is that number and nothing else: no place, no write, the end as it was, and nothing that comes with it
  -- but a ring call's length 0.
  pub plain : (e : End) (c : Call) → (step e c).number ≢ 0 → (part_of c ≡ pull_part → (step e c).number ≢ 9) → step e c ≡ refused_with (refused_given (part_of c)) e (step e c).number
  -- R14: a pull's 9 is that number, the length 0 and how many bytes were dropped, from the own read index to the partner's index w; the read
  -- index is then w, and its four bytes are written. All else of the end is as it was, its tables, endpoints and bindings too.
  pub broken : (e : End) (rx b : List ℕ) → (step e (pull rx b)).number ≡ 9 →
      let g : Ring = receive_ring e in
      let w : ℕ = index_at rx (write_index_at g) in
      step e (pull rx b) ≡ dropped_to (with_read e w) (used (data_length e.rx) e.read w) (read_to g w)

-- ---- O4: open ends

-- what no call changes
pub record SameNumbers (e e' : End) : Type 0 where
  pub initiator : e'.initiator ≡ e.initiator
  pub alignment : e'.alignment ≡ e.alignment
  pub tx : e'.tx ≡ e.tx
  pub rx : e'.rx ≡ e.rx

abbrev pub NumbersStay : Type 0
NumbersStay = (e : End) (c : Call) → SameNumbers e (step e c).next

-- every call keeps an end open, or closed
abbrev pub OpenStays : Type 0
OpenStays = (e : End) (c : Call) → is_open (step e c).next ≡ is_open e

-- a closed end answers 6 to every call
abbrev pub ClosedSix : Type 0
ClosedSix = (e : End) (c : Call) → is_open e ≡ false → step e c ≡ refused_with (refused_given (part_of c)) e 6

-- after any calls an end is open exactly if its opening was accepted
abbrev pub OpenExactly : Type 0
OpenExactly = (o : Opening) (cs : List Call) → is_open (left (opening o).next cs) ≡ eqb (opening o).number 0

-- ---- D1: live runs share no block

-- both tables are in order
abbrev pub Separated : Type 0
Separated = (e : End) → Reached e → Separate e

-- no block is in two live runs of one table
abbrev pub Disjoint : List Entry → Type 0
Disjoint t = (s s' i : ℕ) → Live t s → Live t s' → s ≢ s' → InRun t s i → InRun t s' i → ⊥

abbrev pub RunsDisjoint : Type 0
RunsDisjoint = (e : End) → Reached e → (d : Side) → Disjoint (table d e)

-- and a block that is not free is in one
abbrev pub Covered : List Entry → Type 0
Covered t = (i : ℕ) → ((entry t i).usage ≡ Free → ⊥) → (s : ℕ) × Live t s × InRun t s i

abbrev pub BlocksCovered : Type 0
BlocksCovered = (e : End) → Reached e → (d : Side) → Covered (table d e)

-- ---- D1: a message's blocks stay its own

-- it frees or trims the run at s on side d
abbrev pub Touched : Side → ℕ → RunChange → Type 0
Touched d s no_change = ⊥
Touched d s (takes x y n) = ⊥
Touched d s (trims x y n) = (x ≡ d) × (y ≡ s)
Touched d s (frees x y) = (x ≡ d) × (y ≡ s)

-- none of these calls, one after the other, is accepted and does so
abbrev pub Untouched : Side → ℕ → End → List Call → Type 0
Untouched d s e [] = Unit {0}
Untouched d s e (c ∷ cs) = ((step e c).number ≡ 0 → Touched d s (run_change e.tx e.rx c (step e c).given) → ⊥) × Untouched d s (step e c).next cs

-- Whatever calls and bytes come: as long as no accepted call frees or trims a live run, each of its blocks has the entry that it had.
abbrev pub RunsStay : Type 0
RunsStay =
    (e : End) → Reached e → (d : Side) (s : ℕ) (cs : List Call) → Live (table d e) s → Untouched d s e cs →
    (i : ℕ) → InRun (table d e) s i → entry (table d (left e cs)) i ≡ entry (table d e) i

-- A send keeps its reservation: it starts where it did, with as many of its blocks as K needs.
abbrev pub SendTrims : Type 0
SendTrims =
    (e : End) → Reached e → (tx : List ℕ) (s a k : ℕ) → (step e (send tx s a k)).number ≡ 0 →
    (blocks_for (block_size e.tx) k ≤ (entry e.sent s).count) × (entry (step e (send tx s a k)).next.sent s ≡ run_entry SentData (blocks_for (block_size e.tx) k) a k)

-- ---- O8: what the tests of total calls add refuses nothing

-- 25 is given by the use alone: the tests that a run lies inside, and holds its data, are passed in every end reached
pub record UseDecides (e : End) : Type 0 where
  pub reserved : (s : ℕ) → starts Reserved (block_count e.tx) e.sent s ≡ in_use Reserved e.sent s
  pub sent_data : (s : ℕ) → starts SentData (block_count e.tx) e.sent s ≡ in_use SentData e.sent s
  pub sent_binding : (s : ℕ) → starts SentBinding (block_count e.tx) e.sent s ≡ in_use SentBinding e.sent s
  pub received_data : (s : ℕ) → starts_data (block_count e.rx) (block_size e.rx) e.held s ≡ in_use ReceivedData e.held s
  pub stored_binding : (n : List ℕ) (j : ℕ) → holds (block_count e.rx) n (binding_of e.bindings j) ≡ ((binding_of e.bindings j).stored && same (binding_of e.bindings j).name (padded_name n))

abbrev pub NothingAdded : Type 0
NothingAdded = (e : End) → Reached e → UseDecides e

-- ---- E2: the lowest unused address

-- what the search gives, of eight endpoints one of which is unused
abbrev pub AddressLowest : Type 0
AddressLowest = (ps : List Endpoint) → length ps ≡ 8 → some_endpoint (at is_unused) ps ≡ true →
    (some_endpoint (uses (unused_from 8 0 ps)) ps ≡ false) × ((a : ℕ) → a < unused_from 8 0 ps → some_endpoint (uses a) ps ≡ true) × (unused_from 8 0 ps < 8)

-- ---- D2: no room

-- the least number of blocks that hold K + 4 bytes
abbrev pub NeedLeast : Type 0
NeedLeast = (e : End) (k : ℕ) → is_open e ≡ true → (k + 4 ≤ need e k * block_size e.tx) × ((n : ℕ) → k + 4 ≤ n * block_size e.tx → need e k ≤ n)

-- n free transmit blocks from s on
abbrev pub FreeRun : End → ℕ → ℕ → Type 0
FreeRun e n s = (s + n ≤ block_count e.tx) × ((i : ℕ) → s ≤ i → i < s + n → IsFree e.sent i)

-- K bytes could fit an empty area, but no free run is long enough
pub record Crowded (e : End) (k : ℕ) : Type 0 where
  pub could_fit : need e k ≤ block_count e.tx
  pub no_run : (s : ℕ) → FreeRun e (need e k) s → ⊥

-- What reserving K bytes gives, where f is what is done with the run: too long, no room, or the lowest run.
pub data Reserves (e : End) (k : ℕ) (f : ℕ → Outcome) : Outcome → Type 0 where
  too_long : block_count e.tx < need e k → Reserves e k f (refused e 23)
  no_room : Crowded e k → Reserves e k f (refused e 24)
  at_lowest : (s : ℕ) → need e k ≤ block_count e.tx → FreeRun e (need e k) s → ((i : ℕ) → i < s → FreeRun e (need e k) i → ⊥) → Reserves e k f (f s)

-- a register that has passed its earlier checks (6, 20, 21, 22), at an initiator; entry i is for the endpoint
pub record Registers (e : End) (tx n : List ℕ) (i : ℕ) : Type 0 where
  pub lent : whole e e.tx (length tx) ≡ true
  pub name : good_name 31 n ≡ true
  pub unregistered : some_endpoint (registered n) e.endpoints ≡ false
  pub place : endpoint_at (at is_unused) e.endpoints ≡ found_at i
  pub initiator : e.initiator ≡ true

-- its binding at s, all or nothing: in the blocks and on the ring, or refused by the ring
abbrev pub announces : End → List ℕ → List ℕ → ℕ → ℕ → Outcome
announces e tx n i s = answer (all_or_nothing e (length tx) (announcement e n i (unused_from 8 0 e.endpoints) s)) tx

pub record ReserveSays : Type 0 where
  pub reserve : (e : End) (k : ℕ) → is_open e ≡ true → Reserves e k (reservation e k) (step e (reserve k))
  pub register : (e : End) (tx n : List ℕ) (i : ℕ) → Registers e tx n i → Reserves e (length n + 1) (announces e tx n i) (step e (register tx n))

-- 24 exactly when the earlier checks have passed and the area is crowded
pub record NoRoom : Type 0 where
  pub reserve : (e : End) (k : ℕ) → ((step e (reserve k)).number ≡ 24) ↔ ((is_open e ≡ true) × Crowded e k)
  pub register : (e : End) (tx n : List ℕ) → ((step e (register tx n)).number ≡ 24) ↔ ((i : ℕ) × Registers e tx n i × Crowded e (length n + 1))
