-- The ledger: which runs of blocks are live, by the calls that were made and their answers alone.
use Rattle.std.specs.Prelude.{ℕ, ◌+◌, ◌≤◌, ◌<◌, ◌≡◌, ◌↔◌, List, [], ◌∷◌, eqb, length}
use Rattle.wire.specs.Choice.{pick}
use Rattle.blocks.specs.Tables.{entry, blocks_for}
use Rattle.blocks.specs.WellFormed.{BlockKind, free, inside, leading, block_kind, IsFree}
use Rattle.blocks.specs.declared.Entry.{Entry}
use Rattle.icbmsg.specs.Regions.{block_size}
use Rattle.icbmsg.specs.Outcome.{Given, nothing, a_length, dropped, a_run, control, delivery, Outcome}
use Rattle.icbmsg.specs.Opening.{opening}
use Rattle.icbmsg.specs.declared.Opening.{Opening}
use Rattle.icbmsg.specs.Arrivals.{decode, size_at}
use Rattle.icbmsg.specs.declared.Control.{Control}
use Rattle.icbmsg.specs.declared.Control.TheVariants.{TooShort, UnknownKind, DataSent, DataReleased, BindingSent, BindingReleased}
use Rattle.icbmsg.specs.Calls.{Call, start, push, pull, reserve, room, send, drop, arrival, view, done, register, ask_room, ask_view, run, left}
use Rattle.icbmsg.specs.declared.Region.{Region}
use Rattle.icbmsg.specs.End.{End}

-- ---- the two directions

pub data Side : Type 0 where
  transmit receive : Side

-- an end's region of that side, and the table of its blocks
abbrev pub region_of : Side → End → Region
region_of transmit e = e.tx
region_of receive e = e.rx

abbrev pub table : Side → End → List Entry
table transmit e = e.sent
table receive e = e.held

-- ---- what a call does to the runs

-- nothing; or on one side a run of n blocks at s is taken, the one at s is trimmed to n blocks, or freed
pub data RunChange : Type 0 where
  no_change : RunChange
  takes trims : (d : Side) (s n : ℕ) → RunChange
  frees : (d : Side) (s : ℕ) → RunChange

-- an accepted reserve takes the run that it answers
abbrev pub reserve_change : Given → RunChange
reserve_change nothing = no_change
reserve_change (a_length k) = no_change
reserve_change (dropped n) = no_change
reserve_change (a_run s n) = takes transmit s n
reserve_change (control k a b) = no_change
reserve_change (delivery a b k) = no_change

-- a delivery takes as many blocks, of z bytes each, as its K needs
abbrev pub delivery_change : ℕ → Given → RunChange
delivery_change z nothing = no_change
delivery_change z (a_length k) = no_change
delivery_change z (dropped n) = no_change
delivery_change z (a_run s n) = no_change
delivery_change z (control k a b) = no_change
delivery_change z (delivery a b k) = takes receive b (blocks_for z k)

-- a binding in the n blocks at s that is accepted without an answer is stored, and holds them
abbrev pub stored_change : ℕ → ℕ → Given → RunChange
stored_change s n nothing = takes receive s n
stored_change s n (a_length k) = no_change
stored_change s n (dropped m) = no_change
stored_change s n (a_run x m) = no_change
stored_change s n (control k a b) = no_change
stored_change s n (delivery a b k) = no_change

-- a register that answers 02 takes n blocks, one that answers 03 frees those of the stored binding
abbrev pub register_change : ℕ → Given → RunChange
register_change n nothing = no_change
register_change n (a_length k) = no_change
register_change n (dropped m) = no_change
register_change n (a_run s m) = no_change
register_change n (control k a s) = pick (eqb k 2) (takes transmit s n) (frees receive s)
register_change n (delivery a b k) = no_change

-- rx are the bytes that the arrival itself was lent
abbrev pub arrival_change : Region → List ℕ → Control → Given → RunChange
arrival_change r rx UnknownKind g = no_change
arrival_change r rx TooShort g = no_change
arrival_change r rx (DataSent a b) g = delivery_change (block_size r) g
arrival_change r rx (DataReleased b) g = frees transmit b
arrival_change r rx (BindingSent a b) g = stored_change b (blocks_for (block_size r) (size_at r b rx)) g
arrival_change r rx (BindingReleased a b) g = frees transmit b

-- An accepted call, by its arguments and what came with its answer. t and r are the regions' numbers, which no call changes.
unfoldable pub run_change : Region → Region → Call → Given → RunChange
run_change t r (start tx) g = no_change
run_change t r (push tx c) g = no_change
run_change t r (pull rx b) g = no_change
run_change t r (reserve k) g = reserve_change g
run_change t r (room tx s) g = no_change
run_change t r (send tx s a k) g = trims transmit s (blocks_for (block_size t) k)
run_change t r (drop s) g = frees transmit s
run_change t r (arrival rx m) g = arrival_change r rx (decode m) g
run_change t r (view rx s) g = no_change
run_change t r (done tx s) g = frees receive s
run_change t r (register tx n) g = register_change (blocks_for (block_size t) (length n + 1)) g
run_change t r (ask_room s n) g = no_change
run_change t r (ask_view s n) g = no_change

-- ---- the ledger

-- for each start, how many blocks the live run there has; 0 where none is
abbrev pub Runs : Type 0
Runs = ℕ → ℕ

abbrev pub Ledger : Type 0
Ledger = Side → Runs

-- the run at s has n blocks from now on
abbrev pub noted : ℕ → ℕ → Runs → Runs
noted s n l x = pick (eqb x s) n (l x)

-- on side d, and the other side stays
abbrev pub noted_on : Side → ℕ → ℕ → Ledger → Ledger
noted_on transmit s n l transmit = noted s n (l transmit)
noted_on transmit s n l receive = l receive
noted_on receive s n l transmit = l transmit
noted_on receive s n l receive = noted s n (l receive)

abbrev pub enter : RunChange → Ledger → Ledger
enter no_change l = l
enter (takes d s n) l = noted_on d s n l
enter (trims d s n) l = noted_on d s n l
enter (frees d s) l = noted_on d s 0 l

-- a call with the number n, and what came with it: a refusal is not entered
abbrev pub entered : Region → Region → Call → ℕ → Given → Ledger → Ledger
entered t r c n g l = pick (eqb n 0) (enter (run_change t r c g) l) l

abbrev pub no_runs : Ledger
no_runs d s = 0

-- calls with their outcomes, of which number and what came with it are entered
abbrev pub ledger : Region → Region → List Call → List Outcome → Ledger → Ledger
ledger t r [] os l = l
ledger t r (c ∷ cs) [] l = l
ledger t r (c ∷ cs) (o ∷ os) l = ledger t r cs os (entered t r c o.number o.given l)

-- ---- THE STATEMENT

-- the blocks of the run that a table's entry starts, where it starts one
abbrev pub run_blocks : BlockKind → ℕ → ℕ
run_blocks free n = 0
run_blocks inside n = 0
run_blocks leading n = n

abbrev pub run_at : List Entry → ℕ → ℕ
run_at t s = run_blocks (block_kind (entry t s).usage) (entry t s).count

-- the runs are the table's, and a block is free exactly if no run has it
pub record Accounts (l : Runs) (t : List Entry) : Type 0 where
  pub runs : (s : ℕ) → l s ≡ run_at t s
  pub free : (i : ℕ) → IsFree t i ↔ ((s : ℕ) → s ≤ i → i < s + l s → ⊥)

-- D2, held or free by the history of accepted calls: for every opening and every list of calls, with any bytes lent, the table of each side
-- of the end that they leave is that of the ledger.
abbrev pub ByHistory : Type 0
ByHistory =
    (o : Opening) (cs : List Call) (d : Side) →
    let e : End = (opening o).next in
    Accounts (ledger e.tx e.rx cs (run e cs) no_runs d) (table d (left e cs))
