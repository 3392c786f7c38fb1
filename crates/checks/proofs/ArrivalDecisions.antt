-- Arrivals: each way out of a decision, by the facts that the code has there.
use Prim.Native.Nat.{ℕ, ◌+◌, ◌*◌, ◌≤◌, ◌<◌, min}
use mathlib.Core.Bool.{Bool, true, false, not, ◌&&◌, ◌||◌}
use mathlib.Core.Path.{◌≡◌, refl, sym, ap, ◌∙◌}
use mathlib.Core.List.{List}
use native.Mathlib.Omega.{arith}
use lib.Dec.{leb, ltb}
use lib.ListN.{length}
use borrow.Author.Tests.{le-leb, lt-leb, eq-eqb, ne_eqb}
use Rattle.wire.specs.Choice.{pick, check as numbered, passed}
use Rattle.wire.specs.Reads.{answer}
use Rattle.wire.proofs.Choices.{passed-refused}
use Rattle.std.specs.Prelude.{Result, Ok, Err}
use Rattle.refusal.specs.Numbers.{number_of}
use Rattle.refusal.specs.declared.Refusal.{Refusal}
use Rattle.refusal.proofs.Positive.{number_positive}
use Rattle.blocks.specs.Search.{Search, nowhere, found_at, is_found}
use Rattle.blocks.specs.Names.{Name, endless, name, name_in, padded_name}
use Rattle.blocks.specs.Tables.{entry, starts, blocks_for}
use Rattle.blocks.specs.declared.Use.TheVariants.{SentBinding}
use Rattle.blocks.specs.declared.Entry.{Entry}
use Rattle.endpoints.specs.Endpoints.{waiting_for, clashes, clashes_stored, endpoint_at, binding_at, some_endpoint, some_binding, waiting_as, clashes_as, clashes_stored_as}
use Rattle.endpoints.specs.declared.Endpoint.{Endpoint}
use Rattle.endpoints.specs.declared.Binding.{Binding}
use Rattle.icbmsg.specs.Outcome.{Outcome, refused, check}
use Rattle.icbmsg.specs.Ends.{is_open}
use Rattle.icbmsg.specs.Arrivals.{fits_area, are_free, size_at, receiver, delivered, data_rule, released_bound_of, bound_named, bound_rule}
use Rattle.icbmsg.specs.Reading.{content_at}
use Rattle.icbmsg.specs.declared.Region.{Region}
use Rattle.icbmsg.specs.End.{End}
use Rattle.icbmsg.proofs.ArrivingBytes.{data_flat, with_name, bound_flat}
use Rattle.checks.specs.Measuring.{place_number, measured_number, MeasuredAs, are_lent}
use Rattle.checks.specs.Decisions.{DataAs, ReleaseAs, BindAs, NamedAs, PlacedIn}
use Rattle.checks.specs.declared.arrivals.Measured.{Measured}
use Rattle.checks.specs.declared.arrivals.Binds.{Binds}
use Rattle.checks.specs.declared.arrivals.Binds.TheVariants.{Waiting, Stored}
use Rattle.checks.proofs.OpenSays.{open_says, run_inside}

-- ---- what the code measured

-- check 6 of a measure passes: an open end's receive region is lent whole
pub lent-whole : (e : End) (n : ℕ) → is_open e ≡ true → n ≡ e.rx.length → are_lent n e.rx ≡ true
lent-whole e n h q =
    let o = (open_says e h).rx in
    let a = le-leb 4 e.rx.block_size o.size in
    let b = le-leb e.rx.block_count 256 o.few in
    let c = le-leb (e.rx.blocks_offset + e.rx.block_count * e.rx.block_size) n (omega (arith, o.blocks)) in
    let d = le-leb n 1048576 (omega (arith, o.bytes)) in
    rw (a, b, c, d)

three_checks : (a b c : Bool) (e : End) (o : Outcome) →
    check a 16 e (check b 17 e (check c 18 e o)) ≡ passed (numbered a 16 (numbered b 17 (numbered c 18 0))) o (refused e)
three_checks true true true e o = refl
three_checks true true false e o = refl
three_checks true false c e o = refl
three_checks false b c e o = refl

module _ (m : Result Measured Refusal) (n : ℕ) (h : measured_number m ≡ n) where
  pub measured_refused : (x : Refusal) (o : Outcome) (e : End) → m ≡ Err x → passed n o (refused e) ≡ refused e (number_of x)
  measured_refused x o e q = rw (← h, q) (passed-refused (number_of x) o (refused e) (number_positive x))

  pub measured_fits : (f : Measured) (o : Outcome) (e : End) → m ≡ Ok f → passed n o (refused e) ≡ o
  measured_fits f o e q = rw (← h, q)

pub measured_says : (m : Result Measured Refusal) (g : Region) (b k : ℕ) (f : Measured) → MeasuredAs m g b k → m ≡ Ok f →
    (f.length ≡ k) × (f.count ≡ blocks_for g.block_size k) × (1 ≤ f.count) × (b + f.count ≤ g.block_count) × (k + 4 ≤ f.count * g.block_size)
measured_says m g b k f h q = rw q at h

-- ---- kind 0

module _ (e : End) (a b : ℕ) (r : List ℕ) where
  pub data_14 : 0xFD < a → answer (data_rule e a b) r ≡ refused e 14
  data_14 h = data_flat e a b r ∙ rw (lt-leb a 0xFD h)

  module _ (h : a ≤ 0xFD) where
    pub data_15 : receiver e a ≡ nowhere → answer (data_rule e a b) r ≡ refused e 15
    data_15 i = data_flat e a b r ∙ rw (le-leb a 0xFD h, i)

    module _ (p : ℕ) (i : receiver e a ≡ found_at p) (o : is_open e ≡ true) (n : ℕ) (l : n ≡ e.rx.length) (m : Result Measured Refusal)
        (s : measured_number m ≡ place_number n e.rx e.held b (size_at e.rx b r)) where
      data_passed : answer (data_rule e a b) r ≡ passed (place_number n e.rx e.held b (size_at e.rx b r)) (delivered e a b (size_at e.rx b r)) (refused e)
      data_passed =
          let k : ℕ = size_at e.rx b r in
          data_flat e a b r ∙ rw (le-leb a 0xFD h, ap is_found i, lent-whole e n o l) (three_checks (ltb b e.rx.block_count) (fits_area e.rx b k) (are_free e.held e.rx b k) e (delivered e a b k))

      pub data_refused : (x : Refusal) → m ≡ Err x → DataAs (Err x) e a b r
      data_refused x q = data_passed ∙ measured_refused m _ s x _ e q

      pub data_fits : (d : Measured) → m ≡ Ok d → MeasuredAs m e.rx b (size_at e.rx b r) → p < 8 →
          DataAs (Ok (record { place = p; length = d.length; count = d.count })) e a b r
      data_fits d q t u =
          let z = (open_says e o).rx in
          let f = measured_says m e.rx b (size_at e.rx b r) d t q in
          let y = run_inside e.alignment e.rx b d.count z f.3 in
          (data_passed ∙ measured_fits m _ s d _ e q ∙ rw (i, f.0, f.1), f.2, omega (arith, f.3, z.few), omega (arith, y, f.0, f.4, z.bytes), u)

-- ---- kind 3

module _ (e : End) (a b : ℕ) where
  pub unbind_14 : 0xFD < a → released_bound_of e a b ≡ refused e 14
  unfolding released_bound_of
  unbind_14 h = rw (lt-leb a 0xFD h)

  module _ (h : a ≤ 0xFD) where
    -- 16, 25
    pub unbind_refused : (x : Refusal) → ((o : Outcome) → check (ltb b e.tx.block_count) 16 e (check (starts SentBinding e.tx.block_count e.sent b) 25 e o) ≡ refused e (number_of x)) → released_bound_of e a b ≡ refused e (number_of x)
    unfolding released_bound_of
    unbind_refused x k = rw (le-leb a 0xFD h) (both_checks (ltb b e.tx.block_count) (starts SentBinding e.tx.block_count e.sent b) _ _ ∙ k _)
      where
        both_checks : (p q r : Bool) (o : Outcome) → check p 16 e (check (q && r) 25 e o) ≡ check p 16 e (check q 25 e (check r 25 e o))
        both_checks true true r o = refl
        both_checks true false r o = refl
        both_checks false q r o = refl

    module _ (k : ltb b e.tx.block_count ≡ true) (x : Entry) (p : starts SentBinding e.tx.block_count e.sent b ≡ true) (l : x ≡ entry e.sent b) where
      pub unbind_other : (x.address ≡ a → ⊥) → released_bound_of e a b ≡ refused e 25
      unfolding released_bound_of
      unbind_other d = rw (le-leb a 0xFD h, p, k, ← l, ne_eqb x.address a d)

      pub unbind_live : x.address ≡ a → ReleaseAs (Ok x) e a b
      unfolding released_bound_of
      unbind_live d = (rw (le-leb a 0xFD h, p, k, ← l, eq-eqb x.address a d), p, l)

-- ---- kind 2

neither : (x y : Bool) → (x || y) ≡ false → (x ≡ false) × (y ≡ false)
neither false false h = (refl, refl)
neither false true h = (refl, h)
neither true y h = (h, absurd (true_false h))
  where
    true_false : true ≡ false → ⊥
    true_false q = let z : ◌≡◌ {A = ℕ} 0 1 = ap (λ (b : Bool). pick b 0 1) q in omega arith

either : (x y : Bool) → (x || y) ≡ true → (not x && not y) ≡ false
either true y h = refl
either false true h = refl
either false false h = sym h

module _ (e : End) (a b n : ℕ) (its : List ℕ) where
  pub bind_20 : length its < 1 → bound_named e a b n its ≡ refused e 20
  unfolding bound_named
  bind_20 h = rw (lt-leb 1 (length its) h)

  module _ (h : 1 ≤ length its) (x y : Bool) (p : x ≡ some_endpoint (clashes a its) e.endpoints) (q : y ≡ some_binding (clashes_stored a its) e.bindings) where
    pub bind_21 : (x || y) ≡ true → bound_named e a b n its ≡ refused e 21
    unfolding bound_named
    bind_21 k = rw (le-leb 1 (length its) h, ← p, ← q, either x y k)

    module _ (k : (x || y) ≡ false) (kept : List ℕ) (l : kept ≡ padded_name its) where
      pub bind_waiting : (i : ℕ) → endpoint_at (waiting_for its) e.endpoints ≡ found_at i → BindAs (Ok (Waiting i)) e a b n kept (bound_named e a b n its)
      unfolding bound_named
      bind_waiting i w = let z = neither x y k in rw (le-leb 1 (length its) h, ← p, ← q, z.0, z.1, w, l)

      pub bind_22 : endpoint_at (waiting_for its) e.endpoints ≡ nowhere → binding_at (λ x. not x.stored) e.bindings ≡ nowhere → bound_named e a b n its ≡ refused e 22
      unfolding bound_named
      bind_22 w u = let z = neither x y k in rw (le-leb 1 (length its) h, ← p, ← q, z.0, z.1, w, u)

      pub bind_stored : (j : ℕ) → endpoint_at (waiting_for its) e.endpoints ≡ nowhere → binding_at (λ x. not x.stored) e.bindings ≡ found_at j →
          BindAs (Ok (Stored j)) e a b n kept (bound_named e a b n its)
      unfolding bound_named
      bind_stored j w u = let z = neither x y k in rw (le-leb 1 (length its) h, ← p, ← q, z.0, z.1, w, u, l)

module _ (e : End) (a b : ℕ) (r : List ℕ) where
  pub bound_19 : e.initiator ≡ true → answer (bound_rule e a b) r ≡ refused e 19
  bound_19 i = bound_flat e a b r ∙ rw i

  module _ (i : e.initiator ≡ false) where
    pub bound_14 : 0xFD < a → answer (bound_rule e a b) r ≡ refused e 14
    bound_14 h = bound_flat e a b r ∙ rw (i, lt-leb a 0xFD h)

    pub bound_measured : a ≤ 0xFD → (n : ℕ) → are_lent n e.rx ≡ true → let k : ℕ = size_at e.rx b r in answer (bound_rule e a b) r
        ≡ passed (place_number n e.rx e.held b k) (with_name e (bound_named e a b (blocks_for e.rx.block_size k)) (name_in (min k 32) (content_at e b) r)) (refused e)
    bound_measured h n l =
        let k : ℕ = size_at e.rx b r in
        let o : Outcome = with_name e (bound_named e a b (blocks_for e.rx.block_size k)) (name_in (min k 32) (content_at e b) r) in
        bound_flat e a b r ∙ ap (λ (x : Bool). check (not x) 19 e (check (leb a 0xFD) 14 e (check (ltb b e.rx.block_count) 16 e (check (fits_area e.rx b k) 17 e (check (are_free e.held e.rx b k) 18 e o))))) i
        ∙ rw (le-leb a 0xFD h, l) (three_checks (ltb b e.rx.block_count) (fits_area e.rx b k) (are_free e.held e.rx b k) e o)

  -- by the name that the code found
  pub name-endless : (f : List ℕ → Outcome) (m : Name) → m ≡ endless → with_name e f m ≡ refused e 20
  name-endless f m h = rw h

  pub name-found : (f : List ℕ → Outcome) (m : Name) (its : List ℕ) → m ≡ name its → with_name e f m ≡ f its
  name-found f m its h = rw h

-- the searches for a padded name that is kept so
module _ (ps : List Endpoint) (kept its : List ℕ) (a : ℕ) (l : kept ≡ padded_name its) where
  pub clash_of : (x : Bool) → x ≡ some_endpoint (clashes_as a kept) ps → x ≡ some_endpoint (clashes a its) ps
  clash_of x h = h ∙ ap (λ (m : List ℕ). some_endpoint (clashes_as a m) ps) l

  pub waiting_of : (q : Search) → endpoint_at (waiting_as kept) ps ≡ q → endpoint_at (waiting_for its) ps ≡ q
  waiting_of q h = sym (ap (λ (m : List ℕ). endpoint_at (waiting_as m) ps) l) ∙ h

pub stored_of : (bs : List Binding) (kept its : List ℕ) (a : ℕ) → kept ≡ padded_name its → (x : Bool) → x ≡ some_binding (clashes_stored_as a kept) bs → x ≡ some_binding (clashes_stored a its) bs
stored_of bs kept its a l x h = h ∙ ap (λ (m : List ℕ). some_binding (clashes_stored_as a m) bs) l

-- what becomes of a binding whose name was found
module _ (r : Result Binds Refusal) (e : End) (a b m : ℕ) (kept l its : List ℕ) {n : ℕ} (h : answer (bound_rule e a b) l ≡ bound_named e a b n its) (q : m ≡ n)
    (k : BindAs r e a b m kept (bound_named e a b m its)) where
  pub settled_not : (x : Refusal) → r ≡ Err x → NamedAs (Err x) e a b l
  settled_not x p = let w : BindAs (Err x) e a b m kept (bound_named e a b m its) = rw p at k in rw (h, ← q) w

  pub settled : (d : Binds) → r ≡ Ok d → 1 ≤ m → b + m ≤ 256 → PlacedIn r → NamedAs (Ok (record { binds = d; count = m; name = kept })) e a b l
  settled d p i j z = let w : BindAs (Ok d) e a b m kept (bound_named e a b m its) = rw p at k in (rw (h, ← q) w, i, j, rw p at z)
