-- The end of the parts, where a table's bytes have changed; and the ways out of the calls on messages.
use Prim.Native.Nat.{ℕ, ◌+◌, ◌-◌, ◌*◌, ◌≤◌}
use mathlib.Core.Bool.{Bool, true, false}
use mathlib.Core.Path.{◌≡◌, refl, sym, ap, ◌∙◌}
use mathlib.Core.List.{List, []}
use Rattle.std.specs.Prelude.{Result, Ok, Err}
use Rattle.std.specs.Result.{result_unwrap_or}
use native.Mathlib.Omega.{arith}
use lib.ListN.{take, drop}
use Rattle.refusal.specs.Numbers.{number_of}
use Rattle.refusal.specs.declared.Refusal.{Refusal}
use Rattle.blocks.specs.Tables.{entry, starts, starts_data, freed, taken}
use Rattle.blocks.specs.declared.Use.TheVariants.{Reserved, SentData}
use Rattle.blocks.specs.declared.Entry.{Entry}
use Rattle.endpoints.specs.declared.Endpoint.{Endpoint}
use Rattle.endpoints.specs.declared.Binding.{Binding}
use Rattle.tables.specs.Compact.{table_of, Changed}
use Rattle.icbmsg.specs.Outcome.{without_place, nothing, a_run, control, Outcome, refused, accepted, written, placed, check}
use Rattle.icbmsg.specs.Ends.{is_open, whole, block_at, changed, with_sent, with_held}
use Rattle.icbmsg.specs.Messages.{reserve_of, room_of, send_of, drop_of, view_of, done_of}
use Rattle.icbmsg.specs.declared.Numbers.{Numbers}
use Rattle.icbmsg.specs.End.{End}
use Rattle.checks.specs.Parts.{joined}
use Rattle.checks.specs.Decisions.{ReservesAs, SendAs}
use Rattle.checks.specs.declared.Blocks.{Blocks}
use Rattle.checks.specs.declared.Sending.{Sending}
use Rattle.checks.proofs.Runs.{room-part, view-part}
use Rattle.link.specs.Answers.{answered, place_of}
use Rattle.link.specs.declared.Answer.TheVariants.{Accepted}
use Rattle.link.specs.declared.Place.{Place}

module _ (n : Numbers) (t t' : List ℕ) (l : List Entry) (ps : List Endpoint) (bs : List Binding) where
  pub joined-sent : Changed t t' 0 l → joined n t' ps bs ≡ with_sent (joined n t ps bs) l
  unfolding changed
  joined-sent h = rw (h.table, h.upper 1568 (omega arith))

  pub joined-held : Changed t t' 1568 l → joined n t' ps bs ≡ with_held (joined n t ps bs) l
  unfolding changed
  joined-held h = rw (h.table, h.lower 0 (omega arith))

-- ---- reserve

module _ (n : Numbers) (t : List ℕ) (k : ℕ) (r : Result Blocks Refusal) (h : ReservesAs r n t k) where
  pub space_refused : (x : Refusal) → r ≡ Err x → (ps : List Endpoint) (bs : List Binding) → refused (joined n t ps bs) (number_of x) ≡ reserve_of (joined n t ps bs) k
  space_refused x q ps bs = let w = rw q at h in sym (w ps bs)

  module _ (m : Blocks) (q : r ≡ Ok m) where
    pub space_at : (1 ≤ m.count) × (m.start + m.count ≤ 256)
    space_at = let w = rw q at h in (w.1, w.2)

    pub reserved : (t' : List ℕ) → Changed t t' 0 (taken (table_of t 0) Reserved m.start m.count 0 0) → (ps : List Endpoint) (bs : List Binding) → accepted (joined n t' ps bs) (a_run m.start m.count) ≡ reserve_of (joined n t ps bs) k
    reserved t' c ps bs =
        let w = rw q at h in
        ap (λ (e : End). accepted e (a_run m.start m.count)) (joined-sent n t t' (taken (table_of t 0) Reserved m.start m.count 0 0) ps bs c) ∙ sym (w.3 ps bs ∙ rw (← w.0))

-- ---- drop

module _ (n : Numbers) (t : List ℕ) (s : ℕ) (ps : List Endpoint) (bs : List Binding) (x : Bool) (q : x ≡ is_open (joined n t ps bs)) where
  pub drop-refused : (y : Refusal) → ((e : End) (o : Outcome) → check x 6 e (check (starts Reserved n.tx.block_count (table_of t 0) s) 25 e o) ≡ refused e (number_of y)) →
      refused (joined n t ps bs) (number_of y) ≡ drop_of (joined n t ps bs) s
  unfolding drop_of
  drop-refused y h = sym (rw (← q) (h (joined n t ps bs) _))

  pub dropped : (z : Entry) (t' : List ℕ) → (x ≡ true) × (starts Reserved n.tx.block_count (table_of t 0) s ≡ true) × (z ≡ entry (table_of t 0) s) → Changed t t' 0 (freed (table_of t 0) s z.count) →
      accepted (joined n t' ps bs) nothing ≡ drop_of (joined n t ps bs) s
  unfolding drop_of
  dropped z t' h c = rw (← q, h.0, h.1, ← h.2) (ap (λ (e : End). accepted e nothing) (joined-sent n t t' (freed (table_of t 0) s z.count) ps bs c))

module _ (n : Numbers) (t : List ℕ) (l s : ℕ) (ps : List Endpoint) (bs : List Binding) (x : Bool) (q : x ≡ whole (joined n t ps bs) n.tx l) where
  pub done_refused : (y : Refusal) → ((e : End) (o : Outcome) → check x 6 e (check (starts_data n.rx.block_count n.rx.block_size (table_of t 1568) s) 25 e o) ≡ refused e (number_of y)) →
      done_of (joined n t ps bs) l s ≡ refused (joined n t ps bs) (number_of y)
  unfolding done_of
  done_refused y h = rw (← q) (h (joined n t ps bs) _)

  pub done-live : (z : Entry) → (x ≡ true) × (starts_data n.rx.block_count n.rx.block_size (table_of t 1568) s ≡ true) × (z ≡ entry (table_of t 1568) s) →
      done_of (joined n t ps bs) l s ≡ written (with_held (joined n t ps bs) (freed (table_of t 1568) s z.count)) (control 1 0 s) []
  unfolding done_of
  done-live z h = rw (← q, h.0, h.1, ← h.2)

-- ---- rooms and views

module _ (n : Numbers) (t : List ℕ) (l s : ℕ) (ps : List Endpoint) (bs : List Binding) (x : Bool) where
  pub room-refused : x ≡ whole (joined n t ps bs) n.tx l → (y : Refusal) → ((e : End) (o : Outcome) → check x 6 e (check (starts Reserved n.tx.block_count (table_of t 0) s) 25 e o) ≡ refused e (number_of y)) →
      refused (joined n t ps bs) (number_of y) ≡ room_of (joined n t ps bs) l s
  unfolding room_of
  room-refused q y h = sym (rw (← q) (h (joined n t ps bs) _))

  pub room-placed : x ≡ whole (joined n t ps bs) n.tx l → (z : Entry) → (x ≡ true) × (starts Reserved n.tx.block_count (table_of t 0) s ≡ true) × (z ≡ entry (table_of t 0) s) →
      placed (joined n t ps bs) (block_at n.tx s + 4) (z.count * n.tx.block_size - 4) ≡ room_of (joined n t ps bs) l s
  unfolding room_of
  room-placed q z h = rw (← q, h.0, h.1, ← h.2)

  pub view-refused : x ≡ whole (joined n t ps bs) n.rx l → (y : Refusal) → ((e : End) (o : Outcome) → check x 6 e (check (starts_data n.rx.block_count n.rx.block_size (table_of t 1568) s) 25 e o) ≡ refused e (number_of y)) →
      refused (joined n t ps bs) (number_of y) ≡ view_of (joined n t ps bs) l s
  unfolding view_of
  view-refused q y h = sym (rw (← q) (h (joined n t ps bs) _))

  pub view-placed : x ≡ whole (joined n t ps bs) n.rx l → (z : Entry) → (x ≡ true) × (starts_data n.rx.block_count n.rx.block_size (table_of t 1568) s ≡ true) × (z ≡ entry (table_of t 1568) s) →
      placed (joined n t ps bs) (block_at n.rx s + 4) z.length ≡ view_of (joined n t ps bs) l s
  unfolding view_of
  view-placed q z h = rw (← q, h.0, h.1, ← h.2)

-- a place lies inside the n bytes that are lent
place_inside : (e : End) (n b p x : ℕ) (w k : Bool) → (w ≡ true → k ≡ true → p + x ≤ n) → let o : Outcome = check w 6 e (check k b e (placed e p x)) in o.begin + o.size ≤ n
place_inside e n b p x true true h = h refl refl
place_inside e n b p x true false h = omega arith
place_inside e n b p x false k h = omega arith

pub room-inside : (e : End) (n s : ℕ) → (room_of e n s).begin + (room_of e n s).size ≤ n
unfolding room_of
room-inside e n s =
    place_inside e n 25 (block_at e.tx s + 4) ((entry e.sent s).count * e.tx.block_size - 4) (whole e e.tx n) (starts Reserved e.tx.block_count e.sent s)
    (λ w k. let p = room-part e n s w k in omega (arith, p.inside, p.four))

pub view-inside : (e : End) (n s : ℕ) → (view_of e n s).begin + (view_of e n s).size ≤ n
unfolding view_of
view-inside e n s =
    place_inside e n 25 (block_at e.rx s + 4) (entry e.held s).length (whole e e.rx n) (starts_data e.rx.block_count e.rx.block_size e.held s)
    (λ w k. let p = view-part e n s w k in omega (arith, p.0.inside, p.1))

-- the part that the code cuts out at b, of z bytes, is the one at the place o; q is where the slice begins
module _ (o : Outcome) (b z : ℕ) (h : b ≡ o.begin) (k : z ≡ o.size) where
  pub this_part : (l : List ℕ) → take (b + z - b) (drop b l) ≡ take o.size (drop o.begin l)
  this_part l = let e : b + z - b ≡ o.size = omega arith in rw (e, h) refl

  pub part-begins : (q : ℕ) → b + q ≡ q + o.begin
  part-begins q = omega arith

-- where the code's place lies; a refusal has none
module _ (e : End) (o : Outcome) (p : Place) where
  pub placed_there : (r : Result Place Refusal) → p ≡ result_unwrap_or r (record { begin = 0; size = 0 }) → place_of r e ≡ o → (p.begin ≡ o.begin) × (p.size ≡ o.size)
  placed_there (Ok q) k h = rw k (ap (λ (o : Outcome). o.begin) h, ap (λ (o : Outcome). o.size) h)
  placed_there (Err x) k h = rw k (ap (λ (o : Outcome). o.begin) h, ap (λ (o : Outcome). o.size) h)

-- the question after a place: a refusal's number, or accepted
module _ (r : Result Place Refusal) (e : End) where
  pub asked_no : (x : Refusal) → r ≡ Err x → answered (Err x) e ≡ without_place (place_of r e)
  asked_no x q = rw q refl

  pub asked_yes : (p : Place) → r ≡ Ok p → answered (Ok Accepted) e ≡ without_place (place_of r e)
  asked_yes p q = rw q refl

-- ---- send

module _ (n : Numbers) (t : List ℕ) (ps : List Endpoint) (l s a k : ℕ) (r : Result Sending Refusal) (bs : List Binding) (h : SendAs r (joined n t ps bs) l s a k) where
  pub send-refused : (x : Refusal) → r ≡ Err x → send_of (joined n t ps bs) l s a k ≡ refused (joined n t ps bs) (number_of x)
  send-refused x q = rw q at h

  module _ (m : Sending) (q : r ≡ Ok m) where
    pub send-fits : SendAs (Ok m) (joined n t ps bs) l s a k
    send-fits = rw q at h

    -- the end with both changes of the table
    pub sent : (t₁ t₂ : List ℕ) → Changed t t₁ 0 (freed (table_of t 0) s m.held) → Changed t₁ t₂ 0 (taken (table_of t₁ 0) SentData s m.count m.address k) → joined n t₂ ps bs ≡ with_sent (joined n t ps bs) (taken (freed (table_of t 0) s m.held) SentData s m.count m.address k)
    unfolding changed
    sent t₁ t₂ x y = rw (y.table, y.upper 1568 (omega arith), x.table, x.upper 1568 (omega arith))
