-- A live run's blocks keep their entries until an accepted call frees or trims it.
use Prim.Native.Nat.{ℕ, ◌+◌, ◌*◌, ◌≤◌, ◌<◌}
use mathlib.Core.Bool.{Bool, true, false}
use mathlib.Core.Path.{◌≡◌, refl, ◌∙◌}
use mathlib.Core.List.{List, [], ◌∷◌}
use native.Mathlib.Omega.{arith}
use lib.Dec.{leb}
use lib.ListN.{length}
use borrow.Author.Tests.{leb-true}
use Rattle.icbmsg.specs.Outcome.{Given, Outcome, check}
use Rattle.blocks.specs.Tables.{entry, starts, all_free, freed, taken, run_entry, blocks_for}
use Rattle.endpoints.specs.Endpoints.{bound_at, some_endpoint}
use Rattle.icbmsg.specs.Ends.{is_open, whole, changed}
use Rattle.icbmsg.specs.Messages.{send_of}
use Rattle.icbmsg.specs.Calls.{Call, rule, read_from, step}
use Rattle.blocks.specs.WellFormed.{IsFree, Live, InRun, WellFormed}
use Rattle.icbmsg.specs.WellFormed.{held_run, binding_of, Stored, Separate}
use Rattle.icbmsg.specs.Theorems.{Part, called, Touched, RunsStay, SendTrims}
use Rattle.icbmsg.specs.Pushing.{PushedOrNot, nothing_to_push, not_pushed, is_pushed}
use Rattle.icbmsg.proofs.AllOrNothing.{all_or_nothing_lem}
use Rattle.icbmsg.specs.Ledger.{Side, transmit, receive, table, RunChange, no_change, takes, trims, frees, run_change}
use Rattle.blocks.proofs.Tables.{clash, Relation, below, first, later, above, relation, one-run, Taken, its_first, its_later, apart, Freed, gone, free-at, freed-view, first_entry, taken-view, free_law, live, run_of}
use Rattle.icbmsg.proofs.Effects.{SentChange, as_sent, run-taken, run-freed, run_trimmed, HeldChange, as_was, receives, finishes, stores, forgets, on_side, EndChange, reads_to, Effect, refuses, drops, accepts, sound, whole_open, size_pos, effect}
use Rattle.blocks.proofs.LeastBlocks.{blocks-one, blocks_least}
use Rattle.icbmsg.proofs.Separate.{separate}
use Rattle.blocks.specs.declared.Use.{Use}
use Rattle.blocks.specs.declared.Use.TheVariants.{Reserved, SentData}
use Rattle.blocks.specs.declared.Entry.{Entry}
use Rattle.endpoints.specs.declared.Binding.{Binding}
use Rattle.icbmsg.specs.declared.Region.{Region}
use Rattle.icbmsg.specs.End.{End}

-- ---- a table, in which a live run starts at s and has block i

-- it is not free
pub not_free : {c : ℕ} {good : Entry → Bool} {t : List Entry} → WellFormed c good t → (s : ℕ) → Live t s → (i : ℕ) → InRun t s i → IsFree t i → ⊥
not_free {t = t} o s l i r f = go (relation s (entry t s).count i) f r
  where
    go : {j : ℕ} → Relation s (entry t s).count j → IsFree t j → InRun t s j → ⊥
    go (below h) f r = omega arith
    go first f r = clash l f refl
    go {j} (later h h') f r = clash (o.others s j l h h') f refl
    go (above h h') f r = omega arith

module _ {c : ℕ} {good : Entry → Bool} {t : List Entry} (o : WellFormed c good t) (b : c ≤ 256) (s : ℕ) (l : Live t s) (i : ℕ) (r : InRun t s i) where
  -- a run taken of free blocks leaves it
  kept_by_taking : (u : Use) (s' n a k : ℕ) → all_free t s' n ≡ true → 1 ≤ n → s' + n ≤ c → entry (taken t u s' n a k) i ≡ entry t i
  kept_by_taking u s' n a k f h m = go (taken-view o b u s' n a k h m i) (not_free o s l i r)
    where
      go : {j : ℕ} → Taken t (taken t u s' n a k) (run_entry u n a k) s' n j → (IsFree t j → ⊥) → entry (taken t u s' n a k) j ≡ entry t j
      go (its_first e) d = absurd (d (free-at t s' n s' f (omega arith) (omega arith)))
      go {j} (its_later p q e) d = absurd (d (free-at t s' n j f (omega arith) q))
      go (apart p e) d = e

  -- so does another run freed, or trimmed
  module _ (s' : ℕ) (l' : Live t s') (d : s' ≡ s → ⊥) where
    elsewhere : s' ≤ i → i < s' + (entry t s').count → ⊥
    elsewhere p q = d (one-run o s' s i l' l (p, q) r)

    kept_by_freeing : entry (freed t s' (entry t s').count) i ≡ entry t i
    kept_by_freeing = go (freed-view o b s' l' i) elsewhere
      where
        go : {j : ℕ} → Freed t (freed t s' (entry t s').count) s' (entry t s').count j → (s' ≤ j → j < s' + (entry t s').count → ⊥) → entry (freed t s' (entry t s').count) j ≡ entry t j
        go (gone p q e) f = absurd (f p q)
        go (apart p e) f = e

    kept_by_trimming : (u : Use) (n a k : ℕ) → 1 ≤ n → n ≤ (entry t s').count → entry (taken (freed t s' (entry t s').count) u s' n a k) i ≡ entry t i
    kept_by_trimming u n a k h m =
        go (taken-view (free_law o b s' l') b u s' n a k h (omega (arith, (o.within s' l').1)) i) elsewhere ∙ kept_by_freeing
      where
        go : {j : ℕ} → Taken (freed t s' (entry t s').count) (taken (freed t s' (entry t s').count) u s' n a k) (run_entry u n a k) s' n j → (s' ≤ j → j < s' + (entry t s').count → ⊥) →
            entry (taken (freed t s' (entry t s').count) u s' n a k) j ≡ entry (freed t s' (entry t s').count) j
        go (its_first e) f = absurd (f (omega arith) (omega arith))
        go {j} (its_later p q e) f = absurd (f (omega arith) (omega arith))
        go (apart p e) f = e

-- ---- each way that a table may change

sent_kept : {c : ℕ} {good : Entry → Bool} {t t' : List Entry} {x : RunChange} → WellFormed c good t → c ≤ 256 → SentChange c good t x t' →
    (s : ℕ) → Live t s → (Touched transmit s x → ⊥) → (i : ℕ) → InRun t s i → entry t' i ≡ entry t i
sent_kept o b as_sent s l d i r = refl
sent_kept o b (run-taken u s' n a k su g f h m) s l d i r = kept_by_taking o b s l i r u s' n a k f h m
sent_kept o b (run-freed s' l') s l d i r = kept_by_freeing o b s l i r s' l' (λ q. d (refl, q))
sent_kept o b (run_trimmed u s' n a k l' su g h m) s l d i r = kept_by_trimming o b s l i r s' l' (λ q. d (refl, q)) u n a k h m

held_kept : {g : Region} {t : List Entry} {bs : List Binding} {t' : List Entry} {bs' : List Binding} {x : RunChange} → WellFormed g.block_count (held_run g) t → Stored t bs → g.block_count ≤ 256 → HeldChange g t bs x t' bs' →
    (s : ℕ) → Live t s → (Touched receive s x → ⊥) → (i : ℕ) → InRun t s i → entry t' i ≡ entry t i
held_kept o w b as_was s l d i r = refl
held_kept o w b (receives s' n a k h f m x) s l d i r = kept_by_taking o b s l i r _ s' n a k f m x
held_kept o w b (finishes s' h) s l d i r = kept_by_freeing o b s l i r s' (rw h) (λ q. d (refl, q))
held_kept o w b (stores s' n a j name f m x lj z) s l d i r = kept_by_taking o b s l i r _ s' n a 0 f m x
held_kept {bs = bs} o w b (forgets j lj k) s l d i r =
    let x = w.runs j k in
    rw (← x.1) (kept_by_freeing o b s l i r (binding_of bs j).start (rw x.0) (λ q. d (refl, q)))

-- ---- a call

-- what touches a run is on its side
touched_side : (d : Side) (s : ℕ) (x : RunChange) → Touched d s (on_side d x) → Touched d s x
touched_side transmit s no_change t = t
touched_side transmit s (takes transmit y n) t = t
touched_side transmit s (takes receive y n) t = t
touched_side transmit s (trims transmit y n) t = t
touched_side transmit s (trims receive y n) t = absurd t
touched_side transmit s (frees transmit y) t = t
touched_side transmit s (frees receive y) t = absurd t
touched_side receive s no_change t = t
touched_side receive s (takes transmit y n) t = t
touched_side receive s (takes receive y n) t = t
touched_side receive s (trims transmit y n) t = absurd t
touched_side receive s (trims receive y n) t = t
touched_side receive s (frees transmit y) t = absurd t
touched_side receive s (frees receive y) t = t

changed_kept : {e e' : End} {x : RunChange} → is_open e ≡ true → EndChange e x e' → Separate e → (d : Side) (s : ℕ) → Live (table d e) s → (Touched d s x → ⊥) →
    (i : ℕ) → InRun (table d e) s i → entry (table d e') i ≡ entry (table d e) i
changed_kept {e = e} {x = x} p m w transmit s l f i r = let z = sound e p in sent_kept w.sent (omega (arith, leb-true)) m.sent s l (λ t. f (touched_side transmit s x t)) i r
changed_kept {e = e} {x = x} p m w receive s l f i r = let z = sound e p in held_kept w.held w.stored (omega (arith, leb-true)) m.held s l (λ t. f (touched_side receive s x t)) i r

step_kept : (e : End) (c : Call) → Separate e → (d : Side) (s : ℕ) → Live (table d e) s →
    ((step e c).number ≡ 0 → Touched d s (run_change e.tx e.rx c (step e c).given) → ⊥) → (i : ℕ) → InRun (table d e) s i → entry (table d (step e c).next) i ≡ entry (table d e) i
step_kept e c w d s l k i r = go (effect e c) k
  where
    go : {f : Given → RunChange} {p : Part} {o : Outcome} → Effect f e p o → (o.number ≡ 0 → Touched d s (f o.given) → ⊥) → entry (table d o.next) i ≡ entry (table d e) i
    go (refuses n h) k = refl
    go (drops n x ws q o h) k = changed_kept o (reads_to e o x h) w d s l (λ z. z) i r
    go (accepts z o p m) k = changed_kept o m w d s l (k z) i r

-- ---- a list of calls

own-start : {c : ℕ} {good : Entry → Bool} {t : List Entry} → WellFormed c good t → (s : ℕ) → Live t s → InRun t s s
own-start o s l = omega (arith, (o.within s l).0)

first_in : (e : End) → Separate e → (d : Side) (s : ℕ) → Live (table d e) s → InRun (table d e) s s
first_in e w transmit s l = own-start w.sent s l
first_in e w receive s l = own-start w.held s l

pub runs_stay_until_touched : RunsStay
runs_stay_until_touched e x d s [] l k i r = refl
runs_stay_until_touched e x d s (c ∷ cs) l k i r =
    let w = separate e x in
    let f = step_kept e c w d s l k.0 in
    let q = f s (first_in e w d s l) in
    runs_stay_until_touched (step e c).next (called c x) d s cs (rw q l) k.1 i (rw q r) ∙ f i r

-- ---- a send

-- what an accepted outcome of a send says
record Trims (e : End) (s a k : ℕ) (o : Outcome) : Type 0 where
  trims_to : o.number ≡ 0 → (blocks_for e.tx.block_size k ≤ (entry e.sent s).count) × (entry o.next.sent s ≡ run_entry SentData (blocks_for e.tx.block_size k) a k)

tested : {e : End} {s a k : ℕ} {o : Outcome} (b : Bool) (n : ℕ) → 1 ≤ n → (b ≡ true → Trims e s a k o) → Trims e s a k (check b n e o)
tested true n l t = t refl
tested false n l t = record { trims_to = λ h. absurd (omega arith) }

send_trimmed : (e : End) → Separate e → (n s a k : ℕ) → Trims e s a k (send_of e n s a k)
unfolding send_of changed
send_trimmed e w n s a k =
    tested (whole e e.tx n) 6 (omega arith) λ b.
    tested (starts Reserved e.tx.block_count e.sent s) 25 (omega arith) λ h.
    tested (some_endpoint (bound_at a) e.endpoints) 15 (omega arith) λ _.
    tested (leb (k + 4) ((entry e.sent s).count * e.tx.block_size)) 23 (omega arith) λ f.
    let o = whole_open e e.tx n b in
    let z = sound e o in
    let few : e.tx.block_count ≤ 256 = omega (arith, leb-true) in
    let p = (size_pos e o).0 in
    let r = run_of Reserved e.tx.block_count e.sent s h in
    let l = live r refl in
    let m = blocks_least e.tx.block_size k (entry e.sent s).count (leb-true (k + 4) ((entry e.sent s).count * e.tx.block_size) f) p in
    let one = blocks-one e.tx.block_size k p in
    record { trims_to = λ _. (m, first_entry (taken-view (free_law w.sent few s l) few SentData s (blocks_for e.tx.block_size k) a k one (omega (arith, r.ends)) s) one) }

-- and behind the ring
pushed-trims : {e : End} {tx : List ℕ} {s a k : ℕ} {o o' : Outcome} → PushedOrNot e tx o o' → Trims e s a k o → Trims e s a k o'
unfolding changed
pushed-trims (nothing_to_push q) t = t
pushed-trims (not_pushed c n q r l) t = record { trims_to = λ h. absurd (omega arith) }
pushed-trims (is_pushed c j i q r) t = record { trims_to = t.trims_to }

pub send_trims : SendTrims
unfolding step rule read_from
send_trims e x tx s a k = (pushed-trims (all_or_nothing_lem e tx (send_of e (length tx) s a k)) (send_trimmed e (separate e x) (length tx) s a k)).trims_to
