-- Arrivals: each way out of a rule, by what was decided and what the code made of the tables.
use Prim.Native.Nat.{ℕ, ◌+◌, ◌≤◌, ◌<◌, ◌^◌}
use mathlib.Core.Bool.{true, false}
use mathlib.Core.Path.{◌≡◌, refl, sym, ap, ◌∙◌}
use mathlib.Core.List.{List, []}
use Rattle.std.specs.Prelude.{Result, Ok, Err}
use native.Mathlib.Omega.{arith}
use lib.Dec.{ltb}
use lib.ListN.{length, set}
use Rattle.wire.specs.Reads.{answer}
use Rattle.refusal.specs.Numbers.{number_of}
use Rattle.refusal.specs.declared.Refusal.{Refusal}
use Rattle.blocks.specs.Search.{found_at}
use Rattle.blocks.specs.Tables.{entry, starts, freed, taken}
use Rattle.blocks.specs.declared.Use.{Use}
use Rattle.blocks.specs.declared.Use.TheVariants.{SentData, SentBinding, ReceivedData, StoredBinding}
use Rattle.blocks.specs.declared.Entry.{Entry}
use Rattle.blocks.proofs.Tables.{run_of}
use Rattle.endpoints.specs.Endpoints.{waiting_at, bound_now, endpoint_at}
use Rattle.endpoints.specs.declared.Endpoint.{Endpoint}
use Rattle.endpoints.specs.declared.Binding.{Binding}
use Rattle.endpoints.specs.declared.Stage.TheVariants.{Bound}
use Rattle.tables.specs.Compact.{table_of, Changed}
use Rattle.icbmsg.specs.Outcome.{nothing, control, delivery, Outcome, refused, accepted, check}
use Rattle.icbmsg.specs.Ends.{open_numbers, whole, changed}
use Rattle.icbmsg.specs.Arrivals.{decode, data_rule, release_of, released_bound_of, bound_rule, decoded_rule, arrival_rule}
use Rattle.icbmsg.specs.declared.Control.{Control}
use Rattle.icbmsg.specs.declared.Numbers.{Numbers}
use Rattle.icbmsg.specs.End.{End}
use Rattle.checks.specs.Parts.{joined}
use Rattle.checks.specs.Decisions.{DataAs, ReleaseAs, NamedAs}
use Rattle.checks.specs.declared.arrivals.Delivery.{Delivery}
use Rattle.checks.specs.declared.arrivals.Binds.{Binds}
use Rattle.checks.specs.declared.arrivals.Named.{Named}
use Rattle.checks.proofs.OpenSays.{is_open_lem, open_says}
use Rattle.link.proofs.MessageCalls.{joined-sent}

-- a live run of transmit blocks lies in the table
pub sent-ends : (n : Numbers) (t : List ℕ) (u : Use) (s : ℕ) (z : Entry) → open_numbers n.alignment n.tx n.rx n.write n.read ≡ true →
    starts u n.tx.block_count (table_of t 0) s ≡ true → z ≡ entry (table_of t 0) s → s + z.count ≤ 256
sent-ends n t u s z h k q =
    let e : End = joined n t [] [] in
    rw q (omega (arith, (run_of u n.tx.block_count (table_of t 0) s k).ends, (open_says e (is_open_lem e _ refl h)).tx.few))

-- ---- kind 0

module _ (n : Numbers) (t : List ℕ) (ps : List Endpoint) (a b : ℕ) (r : List ℕ) (m : Result Delivery Refusal) (bs : List Binding) (h : DataAs m (joined n t ps bs) a b r) where
  pub data_refused : (x : Refusal) → m ≡ Err x → refused (joined n t ps bs) (number_of x) ≡ answer (data_rule (joined n t ps bs) a b) r
  data_refused x q = let w = rw q at h in sym w

  module _ (d : Delivery) (q : m ≡ Ok d) where
    pub data_fits : (1 ≤ d.count) × (b + d.count ≤ 256) × (d.length < 2 ^ 24) × (d.place < 8)
    data_fits = let w = rw q at h in (w.1, w.2, w.3, w.4)

    pub data_taken : (t' : List ℕ) (ps' : List Endpoint) → Changed t t' 1568 (taken (table_of t 1568) ReceivedData b d.count a d.length) → ps' ≡ bound_now ps a (found_at d.place) →
        accepted (joined n t' ps' bs) (delivery a b d.length) ≡ answer (data_rule (joined n t ps bs) a b) r
    unfolding changed
    data_taken t' ps' z y = let w = rw q at h in sym (w.0 ∙ rw (z.table, z.lower 0 (omega arith), y))

-- ---- kind 1

module _ (n : Numbers) (t : List ℕ) (b : ℕ) (ps : List Endpoint) (bs : List Binding) where
  pub release_refused : (x : Refusal) → ((e : End) (o : Outcome) → check (ltb b n.tx.block_count) 16 e (check (starts SentData n.tx.block_count (table_of t 0) b) 25 e o) ≡ refused e (number_of x)) →
      refused (joined n t ps bs) (number_of x) ≡ release_of (joined n t ps bs) b
  unfolding release_of
  release_refused x h = sym (h (joined n t ps bs) _)

  pub released : (z : Entry) (t' : List ℕ) → (ltb b n.tx.block_count ≡ true) × (starts SentData n.tx.block_count (table_of t 0) b ≡ true) × (z ≡ entry (table_of t 0) b) →
      Changed t t' 0 (freed (table_of t 0) b z.count) → accepted (joined n t' ps bs) nothing ≡ release_of (joined n t ps bs) b
  unfolding release_of
  released z t' h c = rw (h.1, h.0, ← h.2) (ap (λ (e : End). accepted e nothing) (joined-sent n t t' (freed (table_of t 0) b z.count) ps bs c))

-- ---- kind 3

module _ (n : Numbers) (t : List ℕ) (ps : List Endpoint) (bs : List Binding) (a b : ℕ) (r : Result Entry Refusal) (h : ReleaseAs r (joined n t ps bs) a b) where
  pub unbind_refused : (x : Refusal) → r ≡ Err x → refused (joined n t ps bs) (number_of x) ≡ released_bound_of (joined n t ps bs) a b
  unbind_refused x q = let w = rw q at h in sym w

  module _ (z : Entry) (q : r ≡ Ok z) where
    pub unbind_live : (starts SentBinding n.tx.block_count (table_of t 0) b ≡ true) × (z ≡ entry (table_of t 0) b)
    unbind_live = let w = rw q at h in (w.1, w.2)

    pub unbound : (t' : List ℕ) (ps' : List Endpoint) → Changed t t' 0 (freed (table_of t 0) b z.count) → ps' ≡ bound_now ps a (endpoint_at (waiting_at a) ps) →
        accepted (joined n t' ps' bs) nothing ≡ released_bound_of (joined n t ps bs) a b
    unfolding changed
    unbound t' ps' c p = let w = rw q at h in sym (w.0 ∙ rw (c.table, c.upper 1568 (omega arith), p))

-- ---- kind 2

module _ (n : Numbers) (t : List ℕ) (ps : List Endpoint) (bs : List Binding) (a b : ℕ) (l : List ℕ) (r : Result Named Refusal) (h : NamedAs r (joined n t ps bs) a b l) where
  pub bind_refused : (x : Refusal) → r ≡ Err x → refused (joined n t ps bs) (number_of x) ≡ answer (bound_rule (joined n t ps bs) a b) l
  bind_refused x q = let w = rw q at h in sym w

  module _ (m : Named) (q : r ≡ Ok m) where
    pub bind_blocks : (1 ≤ m.count) × (b + m.count ≤ 256)
    bind_blocks = let w = rw q at h in (w.1, w.2)

    pub bind_waiting : (i : ℕ) → m.binds ≡ Binds.Waiting i →
        accepted (joined n t (set ps i (record { stage = Bound; address = a; name = m.name })) bs) (control 3 a b) ≡ answer (bound_rule (joined n t ps bs) a b) l
    unfolding changed
    bind_waiting i z = let w = rw q at h in let y = rw z at w.0 in sym y

    pub bind_stored : (j : ℕ) → m.binds ≡ Binds.Stored j → (t' : List ℕ) → Changed t t' 1568 (taken (table_of t 1568) StoredBinding b m.count a 0) →
        accepted (joined n t' ps (set bs j (record { stored = true; address = a; start = b; count = m.count; name = m.name }))) nothing ≡ answer (bound_rule (joined n t ps bs) a b) l
    unfolding changed
    bind_stored j z t' c = let w = rw q at h in let y = rw z at w.0 in sym (y ∙ rw (c.table, c.lower 0 (omega arith)))

-- ---- any arrival

module _ (e : End) (r m : List ℕ) where
  pub arrival_6 : whole e e.rx (length r) ≡ false → refused e 6 ≡ answer (arrival_rule e (length r) m) r
  unfolding arrival_rule
  arrival_6 h = rw h

  pub arrival_past_6 : whole e e.rx (length r) ≡ true → (c : Control) → decode m ≡ c → answer (decoded_rule e c) r ≡ answer (arrival_rule e (length r) m) r
  unfolding arrival_rule
  arrival_past_6 h c q = rw (h, q)
