-- Blocks are held or free by the history of accepted calls: the ledger is the table, at every step.
use Prim.Native.Nat.{ℕ, ◌+◌, ◌≤◌, ◌<◌}
use mathlib.Core.Bool.{Bool, true, false}
use mathlib.Core.Path.{◌≡◌, refl, sym, ◌∙◌}
use mathlib.Core.List.{List, [], ◌∷◌}
use native.Mathlib.Omega.{arith}
use lib.Dec.{eqb}
use lib.ListN.{replicate}
use borrow.Author.Tests.{leb-true, eq-eqb, ne_eqb}
use Rattle.wire.specs.Choice.{pick}
use Rattle.blocks.specs.Tables.{entry, free_entry, freed, taken}
use Rattle.blocks.specs.WellFormed.{BlockKind, free, inside, leading, block_kind, IsFree, Live, WellFormed}
use Rattle.blocks.specs.declared.Use.{Use}
use Rattle.blocks.specs.declared.Use.TheVariants.{ReceivedData, StoredBinding}
use Rattle.blocks.specs.declared.Entry.{Entry}
use Rattle.blocks.proofs.Tables.{Relation, below, first, later, above, relation, Taken, its_first, its_later, apart, Freed, gone, free-at, freed-view, freed-free, taken-view, free_law, fresh-entry}
use Rattle.endpoints.specs.declared.Binding.{Binding}
use Rattle.icbmsg.specs.Outcome.{Given, Outcome}
use Rattle.icbmsg.specs.Ends.{is_open}
use Rattle.icbmsg.specs.Opening.{opening}
use Rattle.icbmsg.specs.declared.Opening.{Opening}
use Rattle.icbmsg.specs.Calls.{Call, run, step, left}
use Rattle.icbmsg.specs.Ledger.{Side, transmit, receive, table, RunChange, no_change, takes, trims, frees, Runs, Ledger, noted, enter, entered, no_runs, ledger, run_blocks, run_at, Accounts, ByHistory}
use Rattle.icbmsg.specs.WellFormed.{held_run, binding_of, Stored, Separate}
use Rattle.icbmsg.specs.Theorems.{Part, Reached, opened, called}
use Rattle.icbmsg.specs.declared.Region.{Region}
use Rattle.icbmsg.specs.End.{End}
use Rattle.icbmsg.proofs.Effects.{SentChange, as_sent, run-taken, run-freed, run_trimmed, HeldChange, as_was, receives, finishes, stores, forgets, on_side, EndChange, reads_to, Effect, refuses, drops, accepts, sound, effect}
use Rattle.icbmsg.proofs.Separate.{Opens, opens, shuts, how_opened, separate, left-reached}
use Rattle.icbmsg.proofs.RunsStay.{not_free}
use Rattle.icbmsg.proofs.Refusals.{numbers_stay}

-- ---- the runs of a table after a change

-- the ledger's runs are the table's
abbrev Same : Runs → List Entry → Type 0
Same l t = (s : ℕ) → l s ≡ run_at t s

kind_count : {k : BlockKind} (n : ℕ) → k ≡ leading → run_blocks k n ≡ n
kind_count n h = rw h

no_count : {k : BlockKind} (n : ℕ) → k ≡ free → run_blocks k n ≡ 0
no_count n h = rw h

inside_count : {k : BlockKind} (n : ℕ) → k ≡ inside → run_blocks k n ≡ 0
inside_count n h = rw h

-- n blocks at s noted: at s, and elsewhere
noted-there : (s n : ℕ) (l : Runs) → noted s n l s ≡ n
noted-there s n l = rw (eq-eqb s s refl)

noted-elsewhere : (s n : ℕ) (l : Runs) (x : ℕ) → (x ≡ s → ⊥) → noted s n l x ≡ l x
noted-elsewhere s n l x d = rw (ne_eqb x s d)

-- free blocks taken
taken-noted : {t t' : List Entry} {y : Entry} {s n : ℕ} (l : Runs) → Same l t → ((i : ℕ) → Taken t t' y s n i) → ((i : ℕ) → s ≤ i → i < s + n → IsFree t i) →
    block_kind y.usage ≡ leading → y.count ≡ n → 1 ≤ n → Same (noted s n l) t'
taken-noted {t} {t'} {y} {s} {n} l h v f k q m x = go (v x)
  where
    go : {i : ℕ} → Taken t t' y s n i → noted s n l i ≡ run_at t' i
    go (its_first e) = noted-there s n l ∙ sym (rw (e, kind_count y.count k) q)
    go {i} (its_later p r e) = noted-elsewhere s n l i (omega arith) ∙ h i ∙ no_count (entry t i).count (f i (omega arith) r) ∙ rw e
    go {i} (apart p e) = noted-elsewhere s n l i (λ z. p (omega arith) (omega arith)) ∙ h i ∙ rw e

-- a live run freed
freed-noted : {c : ℕ} {good : Entry → Bool} {t : List Entry} (l : Runs) → Same l t → WellFormed c good t → c ≤ 256 → (s : ℕ) → Live t s → Same (noted s 0 l) (freed t s (entry t s).count)
freed-noted {t = t} l h w b s a x = go (freed-view w b s a x) (relation s (entry t s).count x)
  where
    go : {i : ℕ} → Freed t (freed t s (entry t s).count) s (entry t s).count i → Relation s (entry t s).count i → noted s 0 l i ≡ run_at (freed t s (entry t s).count) i
    go (gone p r e) (below z) = absurd (omega arith)
    go (gone p r e) first = noted-there s 0 l ∙ rw e
    go {i} (gone p r e) (later z z') = noted-elsewhere s 0 l i (omega arith) ∙ h i ∙ inside_count (entry t i).count (w.others s i a z z') ∙ rw e
    go (gone p r e) (above z z') = absurd (omega arith)
    go {i} (apart p e) z = noted-elsewhere s 0 l i (λ q. p (omega arith) (omega (arith, (w.within s a).0))) ∙ h i ∙ rw e

-- the last entry for a start counts
noted_again : (s n m : ℕ) (l : Runs) (x : ℕ) → noted s n (noted s m l) x ≡ noted s n l x
noted_again s n m l x = go (eqb x s)
  where
    go : (b : Bool) → pick b n (pick b m (l x)) ≡ pick b n (l x)
    go true = refl
    go false = refl

-- a live run trimmed
trimmed_noted : {c : ℕ} {good : Entry → Bool} {t : List Entry} (l : Runs) → Same l t → WellFormed c good t → c ≤ 256 → (u : Use) (s n a k : ℕ) → Live t s → block_kind u ≡ leading → 1 ≤ n →
    n ≤ (entry t s).count → Same (noted s n l) (taken (freed t s (entry t s).count) u s n a k)
trimmed_noted l h w b u s n a k v su o m x =
    sym (noted_again s n 0 l x)
    ∙ taken-noted (noted s 0 l) (freed-noted l h w b s v) (taken-view (free_law w b s v) b u s n a k o (omega (arith, (w.within s v).1))) (freed-free w b s n v m) su refl o x

-- ---- an end after a call

-- the ledger's runs are those of both tables
abbrev Matches : Ledger → End → Type 0
Matches l e = (d : Side) → Same (l d) (table d e)

sent_matches : {c : ℕ} {good : Entry → Bool} {t t' : List Entry} {x : RunChange} (l : Ledger) → WellFormed c good t → c ≤ 256 → SentChange c good t x t' → Same (l transmit) t →
    (s : ℕ) → enter x l transmit s ≡ run_at t' s
sent_matches l w b as_sent h x = h x
sent_matches {t = t} l w b (run-taken u s n a k su g f o m) h x = taken-noted (l transmit) h (taken-view w b u s n a k o m) (λ i p q. free-at t s n i f p q) su refl o x
sent_matches l w b (run-freed s v) h x = freed-noted (l transmit) h w b s v x
sent_matches l w b (run_trimmed u s n a k v su g o m) h x = trimmed_noted (l transmit) h w b u s n a k v su o m x

held_matches : {g : Region} {t : List Entry} {bs : List Binding} {t' : List Entry} {bs' : List Binding} {x : RunChange} (l : Ledger) → WellFormed g.block_count (held_run g) t → Stored t bs → g.block_count ≤ 256 → HeldChange g t bs x t' bs' →
    Same (l receive) t → (s : ℕ) → enter x l receive s ≡ run_at t' s
held_matches l w st b as_was h x = h x
held_matches {t = t} l w st b (receives s n a k y f o m) h x = taken-noted (l receive) h (taken-view w b ReceivedData s n a k o m) (λ i p q. free-at t s n i f p q) refl refl o x
held_matches l w st b (finishes s y) h x = freed-noted (l receive) h w b s (rw y) x
held_matches {t = t} l w st b (stores s n a j name f o m lj z) h x = taken-noted (l receive) h (taken-view w b StoredBinding s n a 0 o m) (λ i p q. free-at t s n i f p q) refl refl o x
held_matches {bs = bs} l w st b (forgets j lj k) h x =
    let r = st.runs j k in
    rw (← r.1) (freed-noted (l receive) h w b (binding_of bs j).start (rw r.0) x)

-- a side is entered by what is on it
enter_side : (d : Side) (x : RunChange) (l : Ledger) (s : ℕ) → enter x l d s ≡ enter (on_side d x) l d s
enter_side d no_change l s = refl
enter_side transmit (takes transmit y n) l s = refl
enter_side transmit (takes receive y n) l s = refl
enter_side transmit (trims transmit y n) l s = refl
enter_side transmit (trims receive y n) l s = refl
enter_side transmit (frees transmit y) l s = refl
enter_side transmit (frees receive y) l s = refl
enter_side receive (takes transmit y n) l s = refl
enter_side receive (takes receive y n) l s = refl
enter_side receive (trims transmit y n) l s = refl
enter_side receive (trims receive y n) l s = refl
enter_side receive (frees transmit y) l s = refl
enter_side receive (frees receive y) l s = refl

matches : {e e' : End} {x : RunChange} (l : Ledger) → is_open e ≡ true → Separate e → EndChange e x e' → Matches l e → Matches (enter x l) e'
matches {e} {x = x} l o w m h transmit = let z = sound e o in λ s. enter_side transmit x l s ∙ sent_matches l w.sent (omega (arith, leb-true)) m.sent (h transmit) s
matches {e} {x = x} l o w m h receive = let z = sound e o in λ s. enter_side receive x l s ∙ held_matches l w.held w.stored (omega (arith, leb-true)) m.held (h receive) s

step_matches : (e : End) (c : Call) (l : Ledger) → Separate e → Matches l e → Matches (entered e.tx e.rx c (step e c).number (step e c).given l) (step e c).next
step_matches e c l w h d s = go (effect e c)
  where
    go : {f : Given → RunChange} {p : Part} {o : Outcome} → Effect f e p o → pick (eqb o.number 0) (enter (f o.given) l) l d s ≡ run_at (table d o.next) s
    go (refuses n q) = rw (ne_eqb n 0 (λ (z : n ≡ 0). omega (arith, leb-true 1 n q))) (h d s)
    go (drops n i ws q o r) = matches l o w (reads_to e o i r) h d s
    go (accepts z o p m) = rw z (matches l o w m h d s)

-- ---- a list of calls

-- no call changes the regions' numbers, so those of the opening are those of each end
all_match : (t r : Region) (e : End) → Reached e → t ≡ e.tx → r ≡ e.rx → (cs : List Call) (l : Ledger) → Matches l e → Matches (ledger t r cs (run e cs) l) (left e cs)
unfolding run
all_match t r e x p q [] l h = h
all_match t r e x p q (c ∷ cs) l h =
    let n = numbers_stay e c in
    all_match t r (step e c).next (called c x) (p ∙ sym n.tx) (q ∙ sym n.rx) cs _ (rw (p, q) (step_matches e c l (separate e x) h))

-- ---- what the ledger says of each block

module _ {c : ℕ} {good : Entry → Bool} {t : List Entry} (w : WellFormed c good t) {l : Runs} (h : Same l t) where
  free-none : (i : ℕ) → IsFree t i → (s : ℕ) → s ≤ i → i < s + l s → ⊥
  free-none i f s p q = go (block_kind (entry t s).usage) refl
    where
      go : (k : BlockKind) → block_kind (entry t s).usage ≡ k → ⊥
      go free z = omega (arith, h s ∙ no_count (entry t s).count z)
      go inside z = omega (arith, h s ∙ inside_count (entry t s).count z)
      go leading z = not_free w s z i (p, omega (arith, h s ∙ kind_count (entry t s).count z)) f

  none_free : (i : ℕ) → ((s : ℕ) → s ≤ i → i < s + l s → ⊥) → IsFree t i
  none_free i f = go (block_kind (entry t i).usage) refl
    where
      go : (k : BlockKind) → block_kind (entry t i).usage ≡ k → IsFree t i
      go free z = z
      go inside z = let o = w.owner i z in absurd (f o.0 (omega (arith, o.2)) (omega (arith, o.3, h o.0 ∙ kind_count (entry t o.0).count o.1)))
      go leading z = absurd (f i (omega arith) (omega (arith, (w.within i z).0, h i ∙ kind_count (entry t i).count z)))

  accounts : Accounts l t
  accounts = record { runs = h; free = λ i. (free-none i, none_free i) }

-- ---- THE THEOREM

fresh_matches : (n s : ℕ) → 0 ≡ run_at (replicate n free_entry) s
fresh_matches n s = rw (fresh-entry n s)

opened_matches : {o : Opening} {x : Outcome} → Opens o x → Matches no_runs x.next
opened_matches (opens p q) transmit = fresh_matches 256
opened_matches (opens p q) receive = fresh_matches 256
opened_matches (shuts n h) transmit = fresh_matches 256
opened_matches (shuts n h) receive = fresh_matches 256

pub by_history : ByHistory
by_history o cs d = go d (all_match e.tx e.rx e (opened o) refl refl cs no_runs (opened_matches (how_opened o)) d)
  where
    e : End
    e = (opening o).next

    go : (d : Side) {l : Runs} → Same l (table d (left e cs)) → Accounts l (table d (left e cs))
    go transmit h = accounts (separate (left e cs) (left-reached e cs (opened o))).sent h
    go receive h = accounts (separate (left e cs) (left-reached e cs (opened o))).held h
