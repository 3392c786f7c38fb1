-- Live runs share no block, in every end that is reached.
use Prim.Native.Nat.{ℕ, zero, suc, ◌+◌, ◌≤◌, ◌<◌}
use mathlib.Core.Bool.{Bool, true, false, ◌||◌, false≢true}
use mathlib.Core.Path.{◌≡◌, refl, sym, ap, subst, ◌∙◌}
use mathlib.Core.Logic.{◌≢◌}
use mathlib.Core.List.{List, [], ◌∷◌}
use native.Mathlib.Omega.{arith}
use lib.Dec.{leb, ltb, eqb}
use lib.ListN.{set, replicate, length-set, length-replicate}
use lib.Seq.{get_or-set_same, get_or-set_other}
use borrow.Author.Tests.{eqb-true, eqb-false, leb-true}
use Rattle.wire.specs.Choice.{pick}
use Rattle.icbmsg.specs.Outcome.{Given, nothing, Outcome, accepted}
use Rattle.blocks.specs.Tables.{entry, free_entry}
use Rattle.endpoints.specs.Endpoints.{no_binding, no_endpoint}
use Rattle.icbmsg.specs.Ends.{is_open}
use Rattle.icbmsg.specs.Opening.{opening, region, no_region, fresh, fresh_of, closed_with, tx_layout, rx_layout}
use Rattle.icbmsg.specs.declared.Opening.{Opening}
use Rattle.icbmsg.specs.Calls.{Call, step, left}
use Rattle.icbmsg.specs.Ledger.{transmit, receive, RunChange}
use Rattle.blocks.specs.WellFormed.{leading, block_kind, IsFree, Live, InRun, WellFormed}
use Rattle.icbmsg.specs.WellFormed.{sent_run, held_run, binding_of, IsStored, IsKept, Stored, Separate}
use Rattle.icbmsg.specs.Theorems.{Part, Reached, opened, called, Covered, Separated, RunsDisjoint, BlocksCovered}
use Rattle.blocks.proofs.Tables.{clash, one-run, Taken, its_first, its_later, apart, freed-live, freed-stays, taken-first, taken-stays, freed-view, taken-view, free-at, free_law, take_law, trim_law, fresh-entry, fresh_well_formed}
use Rattle.icbmsg.proofs.Effects.{SentChange, as_sent, run-taken, run-freed, run_trimmed, HeldChange, as_was, receives, finishes, stores, forgets, EndChange, Effect, refuses, drops, accepts, sound, effect, reads_to}
use Rattle.blocks.specs.declared.Use.{Use}
use Rattle.blocks.specs.declared.Use.TheVariants.{Free, Inside, Reserved, SentData, SentBinding, ReceivedData, StoredBinding}
use Rattle.blocks.specs.declared.Entry.{Entry}
use Rattle.endpoints.specs.declared.Binding.{Binding}
use Rattle.icbmsg.specs.declared.Region.{Region}
use Rattle.icbmsg.specs.End.{End}

-- ---- stored bindings

pub data Is (j : ℕ) : ℕ → Type 0 where
  that : Is j j
  another : {i : ℕ} → i ≢ j → Is j i

pub is : (j i : ℕ) → Is j i
is j i = go (eqb j i) refl
  where
    go : (b : Bool) → eqb j i ≡ b → Is j i
    go true q = subst (λ (k : ℕ). Is j k) (eqb-true j i q) that
    go false q = another (λ (h : i ≡ j). eqb-false j i q (sym h))

stored-live : {u : Use} → u ≡ StoredBinding → block_kind u ≡ leading
stored-live h = rw h

not_kept : {b : Bool} → b ≡ true → b ≡ false → ⊥
not_kept h k = false≢true (sym k ∙ h)

-- a change that leaves the runs of stored bindings, and makes none
same-stored : {t t' : List Entry} {bs : List Binding} → Stored t bs → ((i : ℕ) → IsStored t i → entry t' i ≡ entry t i) → ((i : ℕ) → IsStored t' i → entry t' i ≡ entry t i) → Stored t' bs
same-stored {bs = bs} w to fro =
    record {
      eight = w.eight;
      runs = λ j h. let r = w.runs j h in rw (to (binding_of bs j).start r.0) r;
      own = w.own;
      known = λ s h. w.known s (rw (fro s h) at h);
    }

-- a binding stored with a run taken for it
module _ {t t' : List Entry} {bs : List Binding} (w : Stored t bs) (b : Binding) (j : ℕ) (lj : j < 8) (no : (binding_of bs j).stored ≡ false) (k : b.stored ≡ true)
    (f : IsFree t b.start) (new : ((entry t' b.start).usage ≡ StoredBinding) × ((entry t' b.start).count ≡ b.count))
    (to : (i : ℕ) → Live t i → entry t' i ≡ entry t i) (fro : (i : ℕ) → i ≢ b.start → IsStored t' i → entry t' i ≡ entry t i) where
  more-stored : Stored t' (set bs j b)
  more-stored =
      record {
        eight = length-set bs j b ∙ w.eight;
        runs = λ i h. runs (is j i) h;
        own = λ i i' h h' q. own (is j i) (is j i') h h' q;
        known = λ s h. known (is b.start s) h;
      }
    where
      at_j : binding_of (set bs j b) j ≡ b
      at_j = get_or-set_same bs j b no_binding (omega (arith, w.eight))

      off_j : (i : ℕ) → i ≢ j → binding_of (set bs j b) i ≡ binding_of bs i
      off_j i d = get_or-set_other bs j i b no_binding d

      runs : {i : ℕ} → Is j i → IsKept (set bs j b) i →
          IsStored t' (binding_of (set bs j b) i).start × ((entry t' (binding_of (set bs j b) i).start).count ≡ (binding_of (set bs j b) i).count)
      runs that h = rw at_j new
      runs {i} (another d) h =
          let r = w.runs i (rw (off_j i d) at h) in
          rw (off_j i d, to (binding_of bs i).start (stored-live r.0)) r

      taken_twice : (i : ℕ) → i ≢ j → IsKept (set bs j b) i → (binding_of (set bs j b) i).start ≡ b.start → ⊥
      taken_twice i d h q =
          let r = (w.runs i (rw (off_j i d) at h)).0 in
          clash (stored-live r) (subst (λ (s : ℕ). IsFree t s) (sym (rw (off_j i d) at q)) f) refl

      own : {i i' : ℕ} → Is j i → Is j i' → IsKept (set bs j b) i → IsKept (set bs j b) i' → (binding_of (set bs j b) i).start ≡ (binding_of (set bs j b) i').start → i ≡ i'
      own that that h h' q = refl
      own {i' = i'} that (another d) h h' q = absurd (taken_twice i' d h' (sym (rw at_j at q)))
      own {i = i} (another d) that h h' q = absurd (taken_twice i d h (rw at_j at q))
      own {i} {i'} (another d) (another d') h h' q = w.own i i' (rw (off_j i d) at h) (rw (off_j i' d') at h') (rw (off_j i d, off_j i' d') at q)

      known : {s : ℕ} → Is b.start s → IsStored t' s → (i : ℕ) × IsKept (set bs j b) i × ((binding_of (set bs j b) i).start ≡ s)
      known that h = (j, rw at_j k, rw at_j refl)
      known {s} (another d) h =
          let r = w.known s (rw (fro s d h) at h) in
          let e : r.0 ≢ j = λ (q : r.0 ≡ j). not_kept r.1 (rw q no) in
          (r.0, rw (off_j r.0 e) r.1, rw (off_j r.0 e) r.2)

-- a binding forgotten with its run freed
module _ {t t' : List Entry} {bs : List Binding} (w : Stored t bs) (j : ℕ) (lj : j < 8) (k : IsKept bs j)
    (to : (i : ℕ) → Live t i → (binding_of bs j).start ≢ i → entry t' i ≡ entry t i) (fro : (i : ℕ) → Live t' i → (entry t' i ≡ entry t i) × ((binding_of bs j).start ≢ i)) where
  less_stored : Stored t' (set bs j no_binding)
  less_stored =
      record {
        eight = length-set bs j no_binding ∙ w.eight;
        runs = λ i h. runs (is j i) h;
        own = λ i i' h h' q. own (is j i) (is j i') h h' q;
        known = λ s h. known s h;
      }
    where
      at_j : binding_of (set bs j no_binding) j ≡ no_binding
      at_j = get_or-set_same bs j no_binding no_binding (omega (arith, w.eight))

      off_j : (i : ℕ) → i ≢ j → binding_of (set bs j no_binding) i ≡ binding_of bs i
      off_j i d = get_or-set_other bs j i no_binding no_binding d

      runs : {i : ℕ} → Is j i → IsKept (set bs j no_binding) i →
          IsStored t' (binding_of (set bs j no_binding) i).start × ((entry t' (binding_of (set bs j no_binding) i).start).count ≡ (binding_of (set bs j no_binding) i).count)
      runs that h = absurd (false≢true (rw at_j at h))
      runs {i} (another d) h =
          let h' : IsKept bs i = rw (off_j i d) at h in
          let r = w.runs i h' in
          rw (off_j i d, to (binding_of bs i).start (stored-live r.0) (λ q. d (w.own i j h' k (sym q)))) r

      own : {i i' : ℕ} → Is j i → Is j i' → IsKept (set bs j no_binding) i → IsKept (set bs j no_binding) i' →
          (binding_of (set bs j no_binding) i).start ≡ (binding_of (set bs j no_binding) i').start → i ≡ i'
      own that p h h' q = absurd (false≢true (rw at_j at h))
      own (another d) that h h' q = absurd (false≢true (rw at_j at h'))
      own {i} {i'} (another d) (another d') h h' q = w.own i i' (rw (off_j i d) at h) (rw (off_j i' d') at h') (rw (off_j i d, off_j i' d') at q)

      known : (s : ℕ) → IsStored t' s → (i : ℕ) × IsKept (set bs j no_binding) i × ((binding_of (set bs j no_binding) i).start ≡ s)
      known s h =
          let z = fro s (stored-live h) in
          let r = w.known s (rw z.0 at h) in
          let e : r.0 ≢ j = λ (q : r.0 ≡ j). z.1 (subst (λ (i : ℕ). (binding_of bs i).start ≡ s) q r.2) in
          (r.0, rw (off_j r.0 e) r.1, rw (off_j r.0 e) r.2)

-- ---- the laws, for each way that an end may change

turned : {c : ℕ} {good : Entry → Bool} {t t' : List Entry} {d : RunChange} → WellFormed c good t → c ≤ 256 → SentChange c good t d t' → WellFormed c good t'
turned o b as_sent = o
turned {t = t} o b (run-taken u s n a k su g f l m) = take_law o b u s n a k su g (λ i p q. free-at t s n i f p q) l m
turned o b (run-freed s l) = free_law o b s l
turned o b (run_trimmed u s n a k l su g h m) = trim_law o b u s n a k l su g h m

kept_table : {g : Region} {t : List Entry} {bs : List Binding} {t' : List Entry} {bs' : List Binding} {d : RunChange} → WellFormed g.block_count (held_run g) t → Stored t bs → g.block_count ≤ 256 → HeldChange g t bs d t' bs' → WellFormed g.block_count (held_run g) t'
kept_table o w b as_was = o
kept_table {t = t} o w b (receives s n a k h f l m) = take_law o b ReceivedData s n a k refl h (λ i p q. free-at t s n i f p q) l m
kept_table o w b (finishes s h) = free_law o b s (rw h)
kept_table {t = t} o w b (stores s n a j name f l m lj z) = take_law o b StoredBinding s n a 0 refl refl (λ i p q. free-at t s n i f p q) l m
kept_table {bs = bs} o w b (forgets j lj k) = let r = w.runs j k in rw (← r.1) (free_law o b (binding_of bs j).start (stored-live r.0))

-- two uses that differ
differ : (u : Use) → u ≡ ReceivedData → u ≡ StoredBinding → ⊥
differ u p q = let z : ◌≡◌ {A = ℕ} 0 1 = cc in omega arith

-- where a run is taken, a stored binding's is an old one, or the one that is taken
old_run : {t t' : List Entry} {x : Entry} {s n i : ℕ} → Taken t t' x s n i → i ≢ s → IsStored t' i → entry t' i ≡ entry t i
old_run (its_first e) d h = absurd (d refl)
old_run (its_later p q e) d h = absurd (clash (stored-live (rw e at h)) refl refl)
old_run (apart p e) d h = e

not_data : {t t' : List Entry} {x : Entry} {s n i : ℕ} → Taken t t' x s n i → x.usage ≡ ReceivedData → IsStored t' i → entry t' i ≡ entry t i
not_data {x = x} (its_first e) d h = absurd (differ x.usage d (rw e at h))
not_data (its_later p q e) d h = absurd (clash (stored-live (rw e at h)) refl refl)
not_data (apart p e) d h = e

kept_stored : {g : Region} {t : List Entry} {bs : List Binding} {t' : List Entry} {bs' : List Binding} {d : RunChange} → WellFormed g.block_count (held_run g) t → Stored t bs → g.block_count ≤ 256 → HeldChange g t bs d t' bs' → Stored t' bs'
kept_stored o w b as_was = w
kept_stored {t = t} o w b (receives s n a k h f l m) =
    let v = taken-view o b ReceivedData s n a k l m in
    same-stored w (λ i q. taken-stays o v (λ j p r. free-at t s n j f p r) l i (stored-live q)) (λ i q. not_data (v i) refl q)
kept_stored {t = t} o w b (finishes s h) =
    let l : Live t s = rw h in
    let v = freed-view o b s l in
    same-stored w (λ i q. freed-stays o l v i (stored-live q) (λ (r : s ≡ i). differ (entry t i).usage (rw r at h) q)) (λ i q. (freed-live o l v i (stored-live q)).0)
kept_stored {t = t} o w b (stores s n a j name f l m lj z) =
    let v = taken-view o b StoredBinding s n a 0 l m in
    let fr : (i : ℕ) → s ≤ i → i < s + n → IsFree t i = λ i p r. free-at t s n i f p r in
    let e = taken-first o v fr l in
    more-stored w (record { stored = true; address = a; start = s; count = n; name = name }) j lj z refl (fr s (omega arith) (omega arith)) (rw e (refl, refl))
    (taken-stays o v fr l) (λ i d q. old_run (v i) d q)
kept_stored {t = t} {bs = bs} o w b (forgets j lj k) =
    let r = w.runs j k in
    let s : ℕ = (binding_of bs j).start in
    let l : Live t s = stored-live r.0 in
    let v = freed-view o b s l in
    rw (← r.1) (less_stored w j lj k (freed-stays o l v) (freed-live o l v))

moved : {e e' : End} {d : RunChange} → is_open e ≡ true → EndChange e d e' → Separate e → Separate e'
moved {e} p m w =
    let z = sound e p in
    let b : e.rx.block_count ≤ 256 = omega (arith, leb-true) in
    record {
      sent = rw m.numbers.tx (turned w.sent (omega (arith, leb-true)) m.sent);
      held = rw m.numbers.rx (kept_table w.held w.stored b m.held);
      stored = kept_stored w.held w.stored b m.held;
      eight = m.endpoints ∙ w.eight;
    }

-- every call keeps it, whatever bytes are lent
pub stays_separate : (e : End) (c : Call) → Separate e → Separate (step e c).next
stays_separate e c w = go (effect e c) w
  where
    go : {f : Given → RunChange} {p : Part} {o : Outcome} → Effect f e p o → Separate e → Separate o.next
    go (refuses n h) w = w
    go (drops n i ws q o r) w = moved o (reads_to e o i r) w
    go (accepts z o p m) w = moved o m w

-- ---- a fresh end has it

no_bindings : (n j : ℕ) → (binding_of (replicate n no_binding) j).stored ≡ false
no_bindings zero j = refl
no_bindings (suc n) zero = refl
no_bindings (suc n) (suc j) = no_bindings n j

fresh-stored : (n m : ℕ) → m ≡ 8 → Stored (replicate n free_entry) (replicate m no_binding)
fresh-stored n m q =
    record {
      eight = length-replicate m no_binding ∙ q;
      runs = λ j h. absurd (not_kept h (no_bindings m j));
      own = λ i j h. absurd (not_kept h (no_bindings m i));
      known = λ s h. absurd (clash (stored-live h) (ap (λ (x : Entry). block_kind x.usage) (fresh-entry n s)) refl);
    }

pub fresh_separate : (i : Bool) (a : ℕ) (g h : Region) → Separate (fresh i a g h)
fresh_separate i a g h =
    record {
      sent = fresh_well_formed g.block_count (sent_run g);
      held = fresh_well_formed h.block_count (held_run h);
      stored = fresh-stored 256 8 refl;
      eight = length-replicate 8 no_endpoint;
    }

-- an opening: accepted with these tests passed, or refused
pub data Opens (o : Opening) : Outcome → Type 0 where
  opens : (tx_layout o).number ≡ 0 → (rx_layout o).number ≡ 0 → Opens o (accepted (fresh_of o) nothing)
  shuts : (n : ℕ) → n ≢ 0 → Opens o (closed_with n)

pub how_opened : (o : Opening) → Opens o (opening o)
unfolding opening
how_opened o = go (eqb (tx_layout o).number 0) (eqb (rx_layout o).number 0) (leb o.tx.end o.rx.begin || leb o.rx.end o.tx.begin) refl refl
  where
    go : (t r d : Bool) → eqb (tx_layout o).number 0 ≡ t → eqb (rx_layout o).number 0 ≡ r →
        Opens o (pick t (pick r (pick d (accepted (fresh_of o) nothing) (closed_with 5)) (closed_with (rx_layout o).number)) (closed_with (tx_layout o).number))
    go true true true p q = opens (eqb-true (tx_layout o).number 0 p) (eqb-true (rx_layout o).number 0 q)
    go true true false p q = shuts 5 (omega arith)
    go true false d p q = shuts (rx_layout o).number (eqb-false (rx_layout o).number 0 q)
    go false r d p q = shuts (tx_layout o).number (eqb-false (tx_layout o).number 0 p)

opened_separate : {o : Opening} {x : Outcome} → Opens o x → Separate x.next
opened_separate {o} (opens p q) =
    fresh_separate (ltb o.rx.begin o.tx.begin) o.alignment (region o.tx (tx_layout o)) (region o.rx (rx_layout o))
opened_separate (shuts n h) = fresh_separate false 0 no_region no_region

-- ---- the theorem

-- SEPARATE. In every end reached from an opening, by any calls with any bytes lent, both tables are in order.
reached_separate : {e : End} → Reached e → Separate e
reached_separate (opened o) = opened_separate (how_opened o)
reached_separate (called {e = e} c r) = stays_separate e c (reached_separate r)

pub separate : Separated
separate e r = reached_separate r

pub disjoint : RunsDisjoint
disjoint e r transmit s s' i l l' d p q = d (one-run (separate e r).sent s s' i l l' p q)
disjoint e r receive s s' i l l' d p q = d (one-run (separate e r).held s s' i l l' p q)

covered_table : {c : ℕ} {good : Entry → Bool} {t : List Entry} → WellFormed c good t → Covered t
covered_table {t = t} o i n = go (entry t i).usage refl
  where
    live_in : Live t i → (s : ℕ) × Live t s × InRun t s i
    live_in l = (i, l, omega (arith, o.within i l))

    go : (u : Use) → (entry t i).usage ≡ u → (s : ℕ) × Live t s × InRun t s i
    go Free q = absurd (n q)
    go Inside q = let w = o.owner i (ap block_kind q) in (w.0, w.1, omega (arith, w.2, w.3))
    go Reserved q = live_in (ap block_kind q)
    go SentData q = live_in (ap block_kind q)
    go SentBinding q = live_in (ap block_kind q)
    go ReceivedData q = live_in (ap block_kind q)
    go StoredBinding q = live_in (ap block_kind q)

pub covered : BlocksCovered
covered e r transmit = covered_table (separate e r).sent
covered e r receive = covered_table (separate e r).held

-- an end that a run from an opening leaves is reached
pub left-reached : (e : End) (cs : List Call) → Reached e → Reached (left e cs)
left-reached e [] r = r
left-reached e (c ∷ cs) r = left-reached (step e c).next cs (called c r)
