-- The end with bytes and the end with entries: for every opening and every list of calls they answer alike at every step, leave the same lent
-- bytes, and keep the same numbers. The end with entries is that of the rules, `run`. What the code does at a call is what the call's
-- contract says (src/), no more: each case of `Step` has a call's contract for its hypothesis, word for word.
use Rattle.std.specs.Prelude.{ℕ, List, [], ◌∷◌, ◌≡◌, length, Result}
use Rattle.wire.specs.Bytes.{wrote}
use Rattle.wire.specs.Reads.{answer}
use Rattle.refusal.specs.declared.Refusal.{Refusal}
use Rattle.endpoints.specs.declared.Endpoint.{Endpoint}
use Rattle.endpoints.specs.declared.Binding.{Binding}
use Rattle.icbmsg.specs.Outcome.{Given, Outcome, without_writes}
use Rattle.icbmsg.specs.Opening.{opening}
use Rattle.icbmsg.specs.Rings.{start_of, push_rule, pull_rule}
use Rattle.icbmsg.specs.Messages.{reserve_of, room_of, send_rule, drop_of, view_of, done_rule, room_question, view_question}
use Rattle.icbmsg.specs.Registering.{register_rule}
use Rattle.icbmsg.specs.Arrivals.{arrival_rule}
use Rattle.icbmsg.specs.Calls.{Call, Lent, lent, run, start, push, pull, reserve, room, send, drop, arrival, view, done, register, ask_room, ask_view}
use Rattle.icbmsg.specs.End.{End}
use Rattle.icbmsg.specs.declared.Numbers.{Numbers}
use Rattle.icbmsg.specs.declared.Opening.{Opening}
use Rattle.checks.specs.Parts.{joined}
use Rattle.link.specs.Answers.{answer_number, answer_given, answered, packet_number, packet_given, place_of, outcome_of, writing}
use Rattle.link.specs.Parts.{OnTables, PushedOn, WritesTx, PushedOnTables, WritesTxOnTables, OnNumbers, Writes, AtPlace}
use Rattle.link.specs.declared.Answer.{Answer}
use Rattle.link.specs.declared.Opened.{Opened}
use Rattle.link.specs.declared.PacketError.{PacketError}
use Rattle.link.specs.declared.Place.{Place}

-- the end as code keeps it, its tables in bytes
pub record Bytes : Type 0 where
  pub numbers : Numbers
  pub tables : List ℕ
  pub endpoints : List Endpoint
  pub bindings : List Binding

abbrev pub with : Numbers → List ℕ → List Endpoint → List Binding → Bytes
with n t ps bs = record { numbers = n; tables = t; endpoints = ps; bindings = bs }

-- the end that it stands for
abbrev pub stands_for : Bytes → End
stands_for b = joined b.numbers b.tables b.endpoints b.bindings

-- what is seen of a call: its number, what comes with it, its place, the lent bytes afterwards, and the end that it leaves
pub record Seen : Type 0 where
  pub number : ℕ
  pub given : Given
  pub begin : ℕ
  pub size : ℕ
  pub bytes : Lent
  pub next : Bytes

abbrev pub told : Result Answer Refusal → Lent → Bytes → Seen
told a l b = record { number = answer_number a; given = answer_given a; begin = 0; size = 0; bytes = l; next = b }

abbrev pub told_of_ring : Result ℕ PacketError → Lent → Bytes → Seen
told_of_ring a l b = record { number = packet_number a; given = packet_given a; begin = 0; size = 0; bytes = l; next = b }

abbrev pub told_at : Result Place Refusal → Lent → Bytes → Seen
told_at p l b =
    let o : Outcome = place_of p (stands_for b) in
    record { number = o.number; given = o.given; begin = o.begin; size = o.size; bytes = l; next = b }

abbrev pub in_tx : List ℕ → Lent
in_tx s = record { tx = s; rx = []; buffer = [] }

abbrev pub in_rx : List ℕ → List ℕ → Lent
in_rx s b = record { tx = []; rx = s; buffer = b }

-- what a call does to the end with bytes, by its contract
pub data Step (n : Numbers) (t : List ℕ) (ps : List Endpoint) (bs : List Binding) : Call → Seen → Type 0 where
  starts : (r : Result ℕ PacketError) (n' : Numbers) (tx tx' : List ℕ) → OnNumbers (λ e. without_writes (start_of e (length tx))) n r n' → Writes (λ o. o.tx) (λ e. start_of e (length tx)) n tx tx' →
      Step n t ps bs (start tx) (told_of_ring r (in_tx tx') (with n' t ps bs))
  pushes : (r : Result ℕ PacketError) (n' : Numbers) (tx tx' c : List ℕ) → OnNumbers (λ e. without_writes (answer (push_rule e (length tx) c) tx)) n r n' →
      Writes (λ o. o.tx) (λ e. answer (push_rule e (length tx) c) tx) n tx tx' → Step n t ps bs (push tx c) (told_of_ring r (in_tx tx') (with n' t ps bs))
  pulls : (r : Result ℕ PacketError) (n' : Numbers) (rx rx' b b' : List ℕ) → OnNumbers (λ e. without_writes (answer (pull_rule e (length rx) (length b)) rx)) n r n' →
      Writes (λ o. o.rx) (λ e. answer (pull_rule e (length rx) (length b)) rx) n rx rx' → Writes (λ o. o.buffer) (λ e. answer (pull_rule e (length rx) (length b)) rx) n b b' →
      Step n t ps bs (pull rx b) (told_of_ring r (in_rx rx' b') (with n' t ps bs))
  reserves : (r : Result Answer Refusal) (t' : List ℕ) (k : ℕ) → OnTables (λ e. reserve_of e k) n t r t' → Step n t ps bs (reserve k) (told r (in_tx []) (with n t' ps bs))
  rooms : (p : Result Place Refusal) (tx : List ℕ) (s : ℕ) → AtPlace (λ e. room_of e (length tx) s) n t p → Step n t ps bs (room tx s) (told_at p (in_tx tx) (with n t ps bs))
  sends : (r : Result Answer Refusal) (w : ℕ) (t' tx tx' : List ℕ) (s a k : ℕ) → PushedOn (λ e. without_writes (answer (send_rule e (length tx) s a k) tx)) n t ps r w t' →
      WritesTx (λ e. answer (send_rule e (length tx) s a k) tx) n t ps tx tx' → Step n t ps bs (send tx s a k) (told r (in_tx tx') (with (writing n w) t' ps bs))
  drops : (r : Result Answer Refusal) (t' : List ℕ) (s : ℕ) → OnTables (λ e. drop_of e s) n t r t' → Step n t ps bs (drop s) (told r (in_tx []) (with n t' ps bs))
  arrives : (r : Result Answer Refusal) (b : Bytes) (rx m : List ℕ) → answered r (stands_for b) ≡ answer (arrival_rule (joined n t ps bs) (length rx) m) rx →
      Step n t ps bs (arrival rx m) (told r (in_rx rx []) b)
  views : (p : Result Place Refusal) (rx : List ℕ) (s : ℕ) → AtPlace (λ e. view_of e (length rx) s) n t p → Step n t ps bs (view rx s) (told_at p (in_rx rx []) (with n t ps bs))
  ends : (r : Result Answer Refusal) (w : ℕ) (t' tx tx' : List ℕ) (s : ℕ) → PushedOnTables (λ e. without_writes (answer (done_rule e (length tx) s) tx)) n t r w t' →
      WritesTxOnTables (λ e. answer (done_rule e (length tx) s) tx) n t tx tx' → Step n t ps bs (done tx s) (told r (in_tx tx') (with (writing n w) t' ps bs))
  registers : (r : Result Answer Refusal) (b : Bytes) (tx tx' m : List ℕ) → answered r (stands_for b) ≡ without_writes (answer (register_rule (joined n t ps bs) (length tx) m) tx) →
      tx' ≡ wrote tx (answer (register_rule (joined n t ps bs) (length tx) m) tx).tx → Step n t ps bs (register tx m) (told r (in_tx tx') b)
  asks_room : (r : Result Answer Refusal) (s l : ℕ) → OnTables (λ e. room_question e s l) n t r t → Step n t ps bs (ask_room s l) (told r (in_tx []) (with n t ps bs))
  asks_view : (r : Result Answer Refusal) (s l : ℕ) → OnTables (λ e. view_question e s l) n t r t → Step n t ps bs (ask_view s l) (told r (in_tx []) (with n t ps bs))

-- a list of calls, each on the end as the one before left it
pub data Steps : Bytes → List Call → List Seen → Type 0 where
  none : {b : Bytes} → Steps b [] []
  one : {b : Bytes} {c : Call} {cs : List Call} {x : Seen} {xs : List Seen} → Step b.numbers b.tables b.endpoints b.bindings c x → Steps x.next cs xs → Steps b (c ∷ cs) (x ∷ xs)

-- what is seen of a call on the end with bytes, and the outcome of the same call on the end with entries
pub record SameAt (c : Call) (x : Seen) (o : Outcome) : Type 0 where
  pub number : x.number ≡ o.number
  pub given : x.given ≡ o.given
  pub begin : x.begin ≡ o.begin
  pub size : x.size ≡ o.size
  pub tx : x.bytes.tx ≡ wrote (lent c).tx o.tx
  pub rx : x.bytes.rx ≡ wrote (lent c).rx o.rx
  pub buffer : x.bytes.buffer ≡ wrote (lent c).buffer o.buffer
  pub next : stands_for x.next ≡ o.next

pub data AllSame : List Call → List Seen → List Outcome → Type 0 where
  none : AllSame [] [] []
  one : {c : Call} {cs : List Call} {x : Seen} {xs : List Seen} {o : Outcome} {os : List Outcome} → SameAt c x o → AllSame cs xs os → AllSame (c ∷ cs) (x ∷ xs) (o ∷ os)

abbrev pub SameEnds : Type 0
SameEnds =
    (o : Opening) (r : Opened) → outcome_of r ≡ opening o → (cs : List Call) (xs : List Seen) →
    Steps (with r.end.numbers r.end.tables r.end.endpoints r.end.bindings) cs xs → AllSame cs xs (run (opening o).next cs)
