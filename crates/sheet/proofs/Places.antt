-- Where a search and a path lead: to a field that stands in the list, framed by its tag and its length.
use Prim.Native.Nat.{ℕ, zero, suc, ◌+◌, ◌-◌, ◌≤◌}
use mathlib.Core.Bool.{Bool, true, false}
use mathlib.Core.List.{List, [], ◌∷◌, ◌++◌, append_assoc, append-nil}
use mathlib.Core.Path.{◌≡◌, refl, sym, ap, ◌∙◌}
use native.Mathlib.Omega.{arith}
use lib.Dec.{leb, eqb}
use lib.ListN.{length, take, drop, length-append, take-append-drop}
use lib.Seq.{length-take-le, take-append_seam, drop-append_seam}
use borrow.Author.Tests.{leb-true, eqb-true}
use Rattle.wire.specs.Choice.{pick}
use Rattle.sheet.specs.Sheets.{Part, nowhere, part, find, onward, lead, place_of}
use Rattle.sheet.specs.Laws.{FoundInside, Framed, FoundFramed, are_whole, Leads}

pub nowhere≢part : {b : ℕ} {v : List ℕ} → nowhere ≡ part b v → ⊥
nowhere≢part e = let z : ◌≡◌ {A = ℕ} 0 1 = cc in absurd (omega arith)

-- a field behind the n bytes of a value
pub record Found (t a n : ℕ) (s : List ℕ) (b : ℕ) (v : List ℕ) : Type 0 where
  pub frame : Framed t a s b v
  pub whole : are_whole n frame.before ≡ true

found_later : (t a n x : ℕ) (s : List ℕ) (b : ℕ) (v : List ℕ) → Found t (a + 1) n s b v → Found t a (suc n) (x ∷ s) b v
unfolding are_whole
found_later t a n x s b v f =
    record {
      frame =
          record {
            before = x ∷ f.frame.before;
            after = f.frame.after;
            bytes = ap (λ (l : List ℕ). x ∷ l) f.frame.bytes;
            begin = omega (arith, f.frame.begin);
          };
      whole = f.whole;
    }

found-next : (t a u n : ℕ) (s : List ℕ) (b : ℕ) (v : List ℕ) → Found t (a + 2) n s b v → Found t a 0 (u ∷ n ∷ s) b v
unfolding are_whole
found-next t a u n s b v f =
    record {
      frame =
          record {
            before = u ∷ n ∷ f.frame.before;
            after = f.frame.after;
            bytes = ap (λ (l : List ℕ). u ∷ n ∷ l) f.frame.bytes;
            begin = omega (arith, f.frame.begin);
          };
      whole = f.whole;
    }

found_here : (t a u n : ℕ) (s : List ℕ) → u ≡ t → n ≤ length s → Found t a 0 (u ∷ n ∷ s) (a + 2) (take n s)
unfolding are_whole
found_here t a u n s e h =
    record {
      frame =
          record {
            before = [];
            after = drop n s;
            bytes = rw (e, length-take-le n s h, take-append-drop n s);
            begin = omega arith;
          };
      whole = refl;
    }

pub find-found : (t a n : ℕ) (s : List ℕ) (b : ℕ) (v : List ℕ) → find t a n s ≡ part b v → Found t a n s b v
unfolding find
find-found t a (suc n) [] b v f = absurd (nowhere≢part f)
find-found t a (suc n) (x ∷ s) b v f = found_later t a n x s b v (find-found t (a + 1) n s b v f)
find-found t a zero [] b v f = absurd (nowhere≢part f)
find-found t a zero (u ∷ []) b v f = absurd (nowhere≢part f)
find-found t a zero (u ∷ n ∷ s) b v f = go (eqb u t) refl (leb n (length s)) refl f (find-found t (a + 2) n s b v)
  where
    go : (x : Bool) → eqb u t ≡ x → (y : Bool) → leb n (length s) ≡ y →
        pick x (pick y (part (a + 2) (take n s)) nowhere) (find t (a + 2) n s) ≡ part b v →
        (find t (a + 2) n s ≡ part b v → Found t (a + 2) n s b v) → Found t a 0 (u ∷ n ∷ s) b v
    go true ex true ey q later =
        let eb : a + 2 ≡ b = cc in
        let ev : take n s ≡ v = cc in
        rw (← eb, ← ev) (found_here t a u n s (eqb-true u t ex) (leb-true n (length s) ey))
    go true ex false ey q later = absurd (nowhere≢part q)
    go false ex y ey q later = found-next t a u n s b v (later q)

-- ---- a path

pub lead-leads : (path : List ℕ) (a : ℕ) (s : List ℕ) (b : ℕ) (v : List ℕ) → lead path a s ≡ part b v → Leads path a s b v
unfolding lead
lead-leads [] a s b v f =
    let eb : a ≡ b = cc in
    let ev : s ≡ v = cc in
    (eb, ev)
lead-leads (t ∷ ts) a s b v f = go (find t a 0 s) refl f (λ c w. lead-leads ts c w b v)
  where
    go : (r : Part) → find t a 0 s ≡ r → onward r (lead ts) ≡ part b v → ((c : ℕ) (w : List ℕ) → lead ts c w ≡ part b v → Leads ts c w b v) →
        Leads (t ∷ ts) a s b v
    go nowhere e q rest = absurd (nowhere≢part q)
    go (part c w) e q rest =
        let f = find-found t a 0 s c w e in
        record { begin = c; bytes = w; frame = f.frame; whole = f.whole; rest = rest c w q }

-- the bytes v at b of the list s that begins at a
pub record Within (a : ℕ) (s : List ℕ) (b : ℕ) (v : List ℕ) : Type 0 where
  pub before : List ℕ
  pub after : List ℕ
  pub bytes : s ≡ before ++ v ++ after
  pub begin : b ≡ a + length before

-- of a part of a part
within : (a : ℕ) (s : List ℕ) (c : ℕ) (w : List ℕ) (b : ℕ) (v : List ℕ) → Within a s c w → Within c w b v → Within a s b v
within a s c w b v o i =
    record {
      before = o.before ++ i.before;
      after = i.after ++ o.after;
      bytes =
          o.bytes
          ∙ ap (λ (l : List ℕ). (o.before ++ l) ++ o.after) i.bytes
          ∙ append_assoc o.before ((i.before ++ v) ++ i.after) o.after
          ∙ ap (λ (l : List ℕ). o.before ++ l) (append_assoc (i.before ++ v) i.after o.after ∙ append_assoc i.before v (i.after ++ o.after))
          ∙ sym (append_assoc o.before i.before (v ++ (i.after ++ o.after)))
          ∙ sym (append_assoc (o.before ++ i.before) v (i.after ++ o.after));
      begin = omega (arith, length-append o.before i.before, o.begin, i.begin);
    }

-- a framed value, with its frame or without
frame-within : (t a : ℕ) (s : List ℕ) (b : ℕ) (v : List ℕ) → Framed t a s b v → Within a s b v
frame-within t a s b v f =
    record {
      before = f.before ++ t ∷ length v ∷ [];
      after = f.after;
      bytes = f.bytes ∙ ap (λ (l : List ℕ). l ++ f.after) (sym (append_assoc f.before (t ∷ length v ∷ []) v));
      begin = omega (arith, length-append f.before (t ∷ length v ∷ []), f.begin);
    }

pub find-within : (t a : ℕ) (s : List ℕ) (b : ℕ) (v : List ℕ) → find t a 0 s ≡ part b v → Within a s b v
find-within t a s b v f = frame-within t a s b v (find-found t a 0 s b v f).frame

leads-within : (path : List ℕ) (a : ℕ) (s : List ℕ) (b : ℕ) (v : List ℕ) → Leads path a s b v → Within a s b v
leads-within [] a s b v l = record { before = []; after = []; bytes = l.1 ∙ sym (append-nil v); begin = omega (arith, l.0) }
leads-within (t ∷ ts) a s b v l =
    within a s l.begin l.bytes b v (frame-within t a s l.begin l.bytes l.frame) (leads-within ts l.begin l.bytes b v l.rest)

-- ---- the laws

pub found_inside : FoundInside
unfolding place_of
found_inside s path b v f = go (leads-within path 0 s b v (lead-leads path 0 s b v f))
  where
    go : Within 0 s b v → (b + length v ≤ length s) × (take (length v) (drop b s) ≡ v)
    go i =
        let eb : b ≡ length i.before = omega (arith, i.begin) in
        let es = i.bytes ∙ append_assoc i.before v i.after in (
          omega (arith, ap length es, length-append i.before (v ++ i.after), length-append v i.after, eb),
          rw (es, eb, drop-append_seam i.before (v ++ i.after)) (take-append_seam v i.after),
        )

-- a field of a field's value
frame-inside : (t a : ℕ) (s : List ℕ) (c : ℕ) (w : List ℕ) (b : ℕ) (v : List ℕ) → Within a s c w → Framed t c w b v → Framed t a s b v
frame-inside t a s c w b v o f =
    let i = within a s c w (b - 2) (t ∷ length v ∷ v) o (record { before = f.before; after = f.after; bytes = f.bytes; begin = omega (arith, f.begin) }) in
    record { before = i.before; after = i.after; bytes = i.bytes; begin = omega (arith, i.begin, f.begin) }

leads_framed : (tags : List ℕ) (t a : ℕ) (s : List ℕ) (b : ℕ) (v : List ℕ) → Leads (tags ++ t ∷ []) a s b v → Framed t a s b v
leads_framed [] t a s b v l = rw (← l.rest.0, ← l.rest.1) l.frame
leads_framed (u ∷ us) t a s b v l =
    frame-inside t a s l.begin l.bytes b v (frame-within u a s l.begin l.bytes l.frame) (leads_framed us t l.begin l.bytes b v l.rest)

pub found_framed : FoundFramed
unfolding place_of
found_framed s tags t b v f = leads_framed tags t 0 s b v (lead-leads (tags ++ t ∷ []) 0 s b v f)
