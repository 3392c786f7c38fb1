-- What an opening and a record leave, their rows, and a run of a script.
use Rattle.std.specs.Prelude.{ℕ, Some, None, ◌+◌, ◌≤◌, ◌<◌, ◌≡◌, List, length, take, drop}
use Rattle.wire.specs.Bytes.{straight, writes, wrote, words}
use Rattle.icbmsg.specs.Opening.{opening}
use Rattle.icbmsg.specs.declared.Opening.{Opening}
use Rattle.icbmsg.specs.End.{End}
use Rattle.link.specs.Answers.{end_of}
use Rattle.script.specs.Rows.{row_of}
use Rattle.script.specs.Records.{begun, bytes_of, first_record}
use Rattle.script.specs.Calls.{Step, called, record_step, Leaves}
use Rattle.script.specs.declared.kinds.Kind.{Kind}
use Rattle.script.specs.declared.Left.{Left}

-- the opening: at first calls are lent as many bytes as the region has
abbrev pub opening_step : Opening → Step
opening_step o = called (opening o) (bytes_of o.tx) (bytes_of o.rx)

-- `out` with the row of a step at p, and the memory as it is then
abbrev pub with_row : List ℕ → ℕ → Step → List ℕ → List ℕ → List ℕ → List ℕ
with_row out p d tx rx buffer = wrote out (writes (straight p) (words (row_of d.reply d.end tx rx buffer)))

-- how a run ends: bytes written, `out`, and the memory
pub record Result : Type 0 where
  pub written : ℕ
  pub out : List ℕ
  pub tx : List ℕ
  pub rx : List ℕ
  pub buffer : List ℕ

abbrev pub result_of : ℕ → List ℕ → List ℕ → List ℕ → List ℕ → Result
result_of w out tx rx buffer = record { written = w; out = out; tx = tx; rx = rx; buffer = buffer }

-- The rows of the records that s begins with, behind the w bytes of `out` that are written, and how the run ends. It goes on where a record of
-- the format is whole and its row fits.
pub data Rows : List ℕ → ℕ → End → ℕ → ℕ → List ℕ → List ℕ → List ℕ → List ℕ → Result → Type 0 where
  full : {s : List ℕ} {w : ℕ} {e : End} {n m : ℕ} {tx rx buffer out : List ℕ} → length out < w + 56 → Rows s w e n m tx rx buffer out (result_of w out tx rx buffer)
  stops : {s : List ℕ} {w : ℕ} {e : End} {n m : ℕ} {tx rx buffer out : List ℕ} → first_record s ≡ None → Rows s w e n m tx rx buffer out (result_of w out tx rx buffer)
  goes : {s : List ℕ} {w : ℕ} {e : End} {n m : ℕ} {tx rx buffer out : List ℕ} {r : Result} (k : Kind) (l : ℕ) (tx' rx' buffer' : List ℕ) →
      first_record s ≡ Some (record { kind = k; length = l }) → w + 56 ≤ length out → Leaves k (take l (drop 3 s)) e n m tx rx buffer tx' rx' buffer' →
      (d : Step) → d ≡ record_step k (take l (drop 3 s)) e n m tx rx buffer →
      Rows (drop (3 + l) s) (w + 56) d.end d.lent_tx d.lent_rx tx' rx' buffer' (with_row out w d tx' rx' buffer') r → Rows s w e n m tx rx buffer out r

-- A run of the script s: a row for its opening, and then the rows of its records. Nothing is written where s is shorter than an opening, or
-- no row fits.
pub data Runs (s tx rx buffer out : List ℕ) : Result → Type 0 where
  short : begun s ≡ None → Runs s tx rx buffer out (result_of 0 out tx rx buffer)
  narrow : length out < 56 → Runs s tx rx buffer out (result_of 0 out tx rx buffer)
  runs : {r : Result} (o : Opening) → begun s ≡ Some o → 56 ≤ length out →
      Rows (drop 22 s) 56 (opening_step o).end (opening_step o).lent_tx (opening_step o).lent_rx tx rx buffer (with_row out 0 (opening_step o) tx rx buffer) r → Runs s tx rx buffer out r

-- ---- what the code leaves

pub record IsLeft (l : Left) (d : Step) : Type 0 where
  pub end : end_of l.end ≡ d.end
  pub lent_tx : l.lent.tx ≡ d.lent_tx
  pub lent_rx : l.lent.rx ≡ d.lent_rx

-- a record run on what the one before left
abbrev pub left_step : Left → Kind → List ℕ → List ℕ → List ℕ → List ℕ → Step
left_step l k b tx rx buffer = record_step k b (end_of l.end) l.lent.tx l.lent.rx tx rx buffer

abbrev pub LeftLeaves : Left → Kind → List ℕ → List ℕ → List ℕ → List ℕ → List ℕ → List ℕ → List ℕ → Type 0
LeftLeaves l k b tx rx buffer tx' rx' buffer' = Leaves k b (end_of l.end) l.lent.tx l.lent.rx tx rx buffer tx' rx' buffer'

-- the rows from there on
abbrev pub RowsFrom : List ℕ → ℕ → Left → List ℕ → List ℕ → List ℕ → List ℕ → Result → Type 0
RowsFrom s w l tx rx buffer out r = Rows s w (end_of l.end) l.lent.tx l.lent.rx tx rx buffer out r
