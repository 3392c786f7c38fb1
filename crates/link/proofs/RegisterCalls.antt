-- Register: each way out of its rule, by what was decided and what the code made of the tables.
use Prim.Native.Nat.{ℕ, ◌+◌, ◌*◌, ◌≤◌, ◌<◌}
use mathlib.Core.Bool.{Bool, true, false}
use mathlib.Core.Path.{◌≡◌, refl, sym, ap, ◌∙◌}
use mathlib.Core.List.{List, [], ◌∷◌}
use Rattle.std.specs.Prelude.{Result, Ok, Err}
use native.Mathlib.Omega.{arith}
use lib.Dec.{leb, ltb}
use lib.ListN.{length, get_or, set}
use borrow.Author.Tests.{leb-true}
use Rattle.wire.specs.Choice.{pick}
use Rattle.wire.specs.Bytes.{wrote, same}
use Rattle.refusal.specs.Numbers.{number_of}
use Rattle.refusal.specs.declared.Refusal.{Refusal}
use Rattle.blocks.specs.Names.{padded_name}
use Rattle.blocks.specs.Search.{Search, nowhere, found_at}
use Rattle.blocks.specs.Tables.{freed, taken, blocks_for, lies}
use Rattle.blocks.specs.declared.Use.TheVariants.{SentBinding}
use Rattle.blocks.proofs.LeastBlocks.{blocks_hold}
use Rattle.blocks.proofs.Tables.{every}
use Rattle.blocks.proofs.Search.{first-at}
use Rattle.blocks.proofs.Loops.{in_list}
use Rattle.endpoints.specs.Endpoints.{no_binding, holds, holds_as, binding_at, unused_from}
use Rattle.endpoints.specs.declared.Endpoint.{Endpoint}
use Rattle.endpoints.specs.declared.Binding.{Binding}
use Rattle.endpoints.specs.declared.Stage.TheVariants.{Waiting, Bound}
use Rattle.tables.specs.Compact.{table_of, Changed}
use Rattle.icbmsg.specs.Outcome.{nothing, Outcome, refused, accepted, without_writes}
use Rattle.icbmsg.specs.Ends.{open_numbers, is_open, whole, changed}
use Rattle.icbmsg.specs.Registering.{announcement, bound_to_stored, followed, initiates, register_of}
use Rattle.icbmsg.specs.declared.Numbers.{Numbers}
use Rattle.icbmsg.specs.End.{End}
use Rattle.checks.specs.Parts.{joined}
use Rattle.checks.specs.Decisions.{FitAs, PlaceAs}
use Rattle.checks.specs.declared.registrations.Registering.{Registering}
use Rattle.checks.specs.declared.Blocks.{Blocks}
use Rattle.checks.proofs.OpenSays.{Sound, is_open_lem, open_says, run_inside, whole_says}
use Rattle.checks.proofs.Runs.{fit_at}
use Rattle.link.specs.Parts.{behind_ring}

-- what the numbers of an open end say of the transmit region, and of the receive region
pub tx_sound : (n : Numbers) → open_numbers n.alignment n.tx n.rx n.write n.read ≡ true → Sound n.alignment n.tx × Sound n.alignment n.rx
tx_sound n h = let e : End = joined n [] [] [] in let o = open_says e (is_open_lem e _ refl h) in (o.tx, o.rx)

-- ---- the initiator: the name, at place i

module _ (n : Numbers) (t : List ℕ) (name : List ℕ) (r : Result Blocks Refusal) (h : FitAs r n.tx (table_of t 0) (length name + 1)) where
  pub initiate_refused : (x : Refusal) → r ≡ Err x → (ps : List Endpoint) (bs : List Binding) (i : ℕ) → initiates (joined n t ps bs) name i ≡ refused (joined n t ps bs) (number_of x)
  unfolding initiates
  initiate_refused x q ps bs i = let w = rw q at h in w (joined n t ps bs) _

  module _ (m : Blocks) (q : r ≡ Ok m) where
    pub initiate_fits : (m.count ≡ blocks_for n.tx.block_size (length name + 1)) × (1 ≤ m.count) × (m.start + m.count ≤ n.tx.block_count)
    initiate_fits = let w = rw q at h in (w.0, w.3, w.4)

    pub announces : (ps : List Endpoint) (bs : List Binding) (i : ℕ) → initiates (joined n t ps bs) name i ≡ announcement (joined n t ps bs) name i (unused_from 8 0 ps) m.start
    unfolding initiates
    announces ps bs i = let w = rw q at h in fit_at n.tx (table_of t 0) (length name + 1) m.count w.0 (joined n t ps bs) _ m.start w.1 w.2

    -- the end that it leaves
    pub announced : (ps : List Endpoint) (bs : List Binding) (i a : ℕ) (t' kept : List ℕ) → a ≡ unused_from 8 0 ps → Changed t t' 0 (taken (table_of t 0) SentBinding m.start m.count a (length name + 1)) → kept ≡ padded_name name →
        joined n t' (set ps i (record { stage = Waiting; address = a; name = kept })) bs ≡ (announcement (joined n t ps bs) name i (unused_from 8 0 ps) m.start).next
    unfolding changed
    announced ps bs i a t' kept u c k = let w = initiate_fits in rw (← w.0, c.table, c.upper 1568 (omega arith), u, k)

-- the message and its zero lie in its blocks
pub announcement-inside : (n : Numbers) (k s m l : ℕ) → Sound n.alignment n.tx → m ≡ blocks_for n.tx.block_size k → s + m ≤ n.tx.block_count → l ≡ n.tx.length →
    (n.tx.blocks_offset + s * n.tx.block_size + k + 4 ≤ l) × (l ≤ 1048576)
announcement-inside n k s m l o q h p =
    let z : 1 ≤ n.tx.block_size = omega (arith, o.size) in
    let i = run_inside n.alignment n.tx s m o h in
    let f : k + 4 ≤ m * n.tx.block_size = rw q (blocks_hold n.tx.block_size k z) in
    (omega (arith, i, f), omega (arith, o.bytes))

-- ---- the follower

module _ (n : Numbers) (t : List ℕ) (bs : List Binding) (kept : List ℕ) (i : ℕ) (name : List ℕ) (ps : List Endpoint) (k : kept ≡ padded_name name) where
  found : (q : Search) → binding_at (holds_as n.rx.block_count kept) bs ≡ q → binding_at (holds n.rx.block_count name) bs ≡ q
  found q h = sym (ap (λ (m : List ℕ). binding_at (holds_as n.rx.block_count m) bs) k) ∙ h

  pub follow_waits : binding_at (holds_as n.rx.block_count kept) bs ≡ nowhere →
      accepted (joined n t (set ps i (record { stage = Waiting; address = 0; name = kept })) bs) nothing ≡ followed (joined n t ps bs) name i (binding_at (holds n.rx.block_count name) bs)
  unfolding changed
  follow_waits h = rw (found nowhere h, k)

  pub follow_binds : (j : ℕ) (b : Binding) → binding_at (holds_as n.rx.block_count kept) bs ≡ found_at j → b ≡ get_or bs j no_binding →
      followed (joined n t ps bs) name i (binding_at (holds n.rx.block_count name) bs) ≡ bound_to_stored (joined n t ps bs) name i j b
  follow_binds j b h p = rw (found (found_at j) h, p)

-- the end that a stored binding leaves, taken over
pub taken_over : (n : Numbers) (t : List ℕ) (bs : List Binding) (kept : List ℕ) (i : ℕ) (name : List ℕ) (ps : List Endpoint) (j : ℕ) (b : Binding) (t' : List ℕ) → kept ≡ padded_name name → Changed t t' 1568 (freed (table_of t 1568) b.start b.count) →
    joined n t' (set ps i (record { stage = Bound; address = b.address; name = kept })) (set bs j no_binding) ≡ (bound_to_stored (joined n t ps bs) name i j b).next
unfolding changed
taken_over n t bs kept i name ps j b t' k c = rw (k, c.table, c.lower 0 (omega arith))

-- what a stored binding of the kept name says of its blocks, at place j; d stands beyond the bindings
pub holds_says : (bs : List Binding) (c : ℕ) (kept : List ℕ) (j : ℕ) (d : Binding) → binding_at (holds_as c kept) bs ≡ found_at j → j < length bs → c ≤ 256 →
    (get_or bs j d ≡ get_or bs j no_binding) × ((get_or bs j d).start < 256) × ((get_or bs j d).start + (get_or bs j d).count ≤ 256)
holds_says bs c kept j d h l f =
    let w = first-at (holds_as c kept) no_binding bs 8 0 j h in
    let b : Binding = get_or bs j no_binding in
    let z = every (b.stored ∷ same b.name kept ∷ lies c b.start b.count ∷ []) w.0 in
    let y = every (ltb b.start c ∷ leb 1 b.count ∷ leb (b.start + b.count) c ∷ []) z.1.1.0 in
    let s = leb-true 1 b.count y.1.0 in
    let t = leb-true (b.start + b.count) c y.1.1.0 in
    let q = in_list bs j d no_binding l in
    rw q (refl, omega arith, omega arith)

-- ---- register, by the place that was decided

module _ (p : Result Registering Refusal) (e : End) (l : ℕ) (n : List ℕ) (h : PlaceAs p e l n) where
  pub place-refused : (x : Refusal) → p ≡ Err x → register_of e l n ≡ refused e (number_of x)
  place-refused x q = rw q at h

  pub place_at : (r : Registering) → p ≡ Ok r → PlaceAs (Ok r) e l n
  place_at r q = rw q at h

pub whole_numbers : (n : Numbers) (t : List ℕ) (ps : List Endpoint) (bs : List Binding) (l : ℕ) → whole (joined n t ps bs) n.tx l ≡ true →
    (open_numbers n.alignment n.tx n.rx n.write n.read ≡ true) × (l ≡ n.tx.length)
unfolding is_open
whole_numbers n t ps bs l h = let w = whole_says (joined n t ps bs) n.tx l h in (w.is_open, w.lent)

module _ (e : End) (l : ℕ) (n : List ℕ) (i : ℕ) (q : register_of e l n ≡ pick e.initiator (initiates e n i) (followed e n i (binding_at (holds e.rx.block_count n) e.bindings))) where
  by_role : (b : Bool) → e.initiator ≡ b → register_of e l n ≡ pick b (initiates e n i) (followed e n i (binding_at (holds e.rx.block_count n) e.bindings))
  by_role b h = q ∙ ap (λ (b : Bool). pick b (initiates e n i) (followed e n i (binding_at (holds e.rx.block_count n) e.bindings))) h

  pub registers-first : e.initiator ≡ true → (o : Outcome) (s s' : List ℕ) → o ≡ without_writes (behind_ring e s (initiates e n i)) → s' ≡ wrote s (behind_ring e s (initiates e n i)).tx →
      (o ≡ without_writes (behind_ring e s (register_of e l n))) × (s' ≡ wrote s (behind_ring e s (register_of e l n)).tx)
  registers-first h o s s' k m = let z = sym (by_role true h) in (k ∙ ap (λ (x : Outcome). without_writes (behind_ring e s x)) z, m ∙ ap (λ (x : Outcome). wrote s (behind_ring e s x).tx) z)

  pub registers_later : e.initiator ≡ false → (o : Outcome) (s s' : List ℕ) → let f : Outcome = followed e n i (binding_at (holds e.rx.block_count n) e.bindings) in
      o ≡ without_writes (behind_ring e s f) → s' ≡ wrote s (behind_ring e s f).tx → (o ≡ without_writes (behind_ring e s (register_of e l n))) × (s' ≡ wrote s (behind_ring e s (register_of e l n)).tx)
  registers_later h o s s' k m = let z = sym (by_role false h) in (k ∙ ap (λ (x : Outcome). without_writes (behind_ring e s x)) z, m ∙ ap (λ (x : Outcome). wrote s (behind_ring e s x).tx) z)
