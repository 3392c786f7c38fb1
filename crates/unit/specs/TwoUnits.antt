-- Two units with swapped regions: what one sends the other receives, in order, byte for byte (docs/RULES.md, U6).
use Rattle.std.specs.Prelude.{ℕ, ◌-◌, ◌≤◌, ◌<◌, Bool, true, false, ◌≡◌, List, [], ◌∷◌, ◌++◌, length}
use Rattle.wire.specs.Bytes.{wrote}
use Rattle.icmsg.specs.Ring.{start_content}
use Rattle.icmsg.specs.Rules.{Answer, refused, accepted, dropped, answer_number, length_in, Outcome, refusal}
use Rattle.icmsg.specs.Unread.{unread}
use Rattle.unit.specs.Opening.{opening}
use Rattle.unit.specs.Rules.{transmit_ring, start_of, push_of, receive_of, with_write, with_read}
use Rattle.unit.specs.declared.Opening.{Opening}
use Rattle.unit.specs.declared.Unit.{Unit}

-- one way: the bytes of its region, and the contents that were sent and received so far
pub record Way : Type 0 where
  pub bytes : List ℕ
  pub sent : List (List ℕ)
  pub got : List (List ℕ)

-- the units, and the ways from here to there and from there to here
pub record Pair : Type 0 where
  pub here : Unit
  pub there : Unit
  pub out : Way
  pub into : Way

-- seen from the other unit
abbrev pub swap : Pair → Pair
swap p = record { here = p.there; there = p.here; out = p.into; into = p.out }

pub data Call : Type 0 where
  start : Call
  push : (content : List ℕ) → Call
  receive : (room : ℕ) → Call

-- an accepted content comes last
abbrev pub logged : List ℕ → Answer → List (List ℕ) → List (List ℕ)
logged c (refused n) cs = cs
logged c (accepted k i) cs = cs ++ (c ∷ [])
logged c (dropped n i) cs = cs

-- the bytes that are copied to a buffer
unfoldable pub copied : List (ℕ × ℕ) → List ℕ
copied [] = []
copied (w ∷ ws) = w.1 ∷ copied ws

-- a way after a call that sends the content, and after one that receives
abbrev pub said : List ℕ → Outcome → Way → Way
said c o w = record { bytes = wrote w.bytes o.region; sent = logged c o.answer w.sent; got = w.got }

abbrev pub heard : Outcome → Way → Way
heard o w = record { bytes = wrote w.bytes o.region; sent = w.sent; got = logged (copied o.buffer) o.answer w.got }

-- the unit here sends content c with outcome o, or receives with outcome o
abbrev pub sends : Pair → List ℕ → Outcome → Pair
sends p c o = record { here = with_write p.here o.answer; there = p.there; out = said c o p.out; into = p.into }

abbrev pub receives : Pair → Outcome → Pair
receives p o = record { here = with_read p.here o.answer; there = p.there; out = p.out; into = heard o p.into }

-- a call of the unit here
abbrev pub turn : Pair → Call → Pair
turn p start = sends p start_content (start_of p.here (length p.out.bytes))
turn p (push c) = sends p c (push_of p.here p.out.bytes c)
turn p (receive b) = receives p (receive_of p.here p.into.bytes b)

-- a list of calls, each of the unit here (true) or of that there
abbrev pub run : Pair → List (Bool × Call) → Pair
run p [] = p
run p ((true, c) ∷ cs) = run (turn p c) cs
run p ((false, c) ∷ cs) = run (swap (turn (swap p) c)) cs

-- ---- each is started once: a unit sends when it has started, and receives when the other has

-- whether a unit has started after a call, where it had or had not before
abbrev pub starts : Call → Bool → Bool
starts start x = true
starts (push c) x = x
starts (receive b) x = x

-- a call of a unit that has started or not (mine), and so has the other
abbrev pub InTurn : Bool → Bool → Call → Type 0
InTurn mine other start = mine ≡ false
InTurn mine other (push c) = mine ≡ true
InTurn mine other (receive b) = other ≡ true

abbrev pub EachOnce : Bool → Bool → List (Bool × Call) → Type 0
EachOnce h t [] = Prim.Unit {0}
EachOnce h t ((true, c) ∷ cs) = InTurn h t c × EachOnce (starts c h) t cs
EachOnce h t ((false, c) ∷ cs) = InTurn t h c × EachOnce h (starts c t) cs

-- whether the unit here, and that there, has started after the calls
abbrev pub started_here : Bool → List (Bool × Call) → Bool
started_here h [] = h
started_here h ((true, c) ∷ cs) = started_here (starts c h) cs
started_here h ((false, c) ∷ cs) = started_here h cs

abbrev pub started_there : Bool → List (Bool × Call) → Bool
started_there t [] = t
started_there t ((true, c) ∷ cs) = started_there t cs
started_there t ((false, c) ∷ cs) = started_there (starts c t) cs

-- ---- the statement

-- what a receive with a buffer of b bytes gives, where these contents are unread: the first of them, if it fits
abbrev pub GivesNext : ℕ → List (List ℕ) → Outcome → Type 0
GivesNext b [] o = o ≡ refusal 8
GivesNext b (c ∷ cs) o =
    (length c ≤ b → (answer_number o.answer ≡ 0) × (length_in o.answer ≡ length c) × (copied o.buffer ≡ c))
    × (b < length c → o ≡ refusal 26)

-- the way out of here: what was received, and behind it what is unread, is what was sent, and the next receive there gives the next
pub record InOrder (p : Pair) : Type 0 where
  pub all : p.out.got ++ unread (transmit_ring p.here) p.out.bytes ≡ p.out.sent
  pub next : (b : ℕ) → GivesNext b (unread (transmit_ring p.here) p.out.bytes) (receive_of p.there p.out.bytes b)

-- the other unit's opening
abbrev pub swapped : Opening → Opening
swapped o = record { alignment = o.alignment; tx = o.rx; rx = o.tx }

-- both are opened on the same two regions, with whatever bytes stand there
abbrev pub opened : Opening → List ℕ → List ℕ → Pair
opened o s s' =
    record {
      here = (opening o).unit;
      there = (opening (swapped o)).unit;
      out = record { bytes = s; sent = []; got = [] };
      into = record { bytes = s'; sent = []; got = [] };
    }

-- THE STATEMENT: however the calls interleave
abbrev pub TwoUnits : Type 0
TwoUnits =
    (o : Opening) (s s' : List ℕ) → (opening o).number ≡ 0 → length s ≡ o.tx.end - o.tx.begin → length s' ≡ o.rx.end - o.rx.begin →
    (calls : List (Bool × Call)) → EachOnce false false calls →
    let p : Pair = run (opened o s s') calls in
    (started_here false calls ≡ true → InOrder p) × (started_there false calls ≡ true → InOrder (swap p))
