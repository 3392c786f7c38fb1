-- The opening and a record by what the code has read.
use Prim.Native.Nat.{ℕ, ◌+◌, ◌-◌, ◌≤◌, ◌<◌}
use mathlib.Core.Bool.{Bool, true, false}
use mathlib.Core.Path.{◌≡◌, refl, ap}
use mathlib.Core.List.{List}
use native.Mathlib.Omega.{arith}
use lib.ListN.{length, get_or, take, drop, length-take, length-drop}
use lib.Dec.{ltb}
use borrow.Author.Tests.{lt-ltb, le-ltb, ltb-false}
use Rattle.wire.specs.Choice.{pick}
use Rattle.icbmsg.specs.declared.Opening.{Opening}
use Rattle.std.specs.Prelude.{Option, Some, None}
use Rattle.script.specs.Records.{number_at, opening_of, begun, has, kind_of, with_body, first_record}
use Rattle.script.specs.declared.kinds.Kind.{Kind}
use Rattle.script.specs.declared.records.Record.{Record}

module _ (s : List ℕ) where
  pub no_opening : length s < 22 → None ≡ begun s
  unfolding begun
  no_opening h = rw (lt-ltb (length s) 22 h)

  pub an_opening : 22 ≤ length s → Some (opening_of s) ≡ begun s
  unfolding begun
  an_opening h = rw (le-ltb (length s) 22 h)

  pub no_header : length s < 3 → None ≡ first_record s
  unfolding first_record
  no_header h = rw (lt-ltb (length s) 3 h)

  module _ (h : 3 ≤ length s) (n : ℕ) (e : n ≡ number_at 2 s 1) where
    pub cut_off : length s - 3 < n → None ≡ first_record s
    unfolding first_record
    cut_off l = rw (le-ltb (length s) 3 h, ← e, lt-ltb (length s - 3) n l)

    module _ (l : n ≤ length s - 3) where
      by_kind : (k : Option Kind) → kind_of (get_or s 0 0) ≡ k → with_body k n ≡ first_record s
      unfolding first_record
      by_kind k q = rw (le-ltb (length s) 3 h, ← e, le-ltb (length s - 3) n l, q) refl

      pub no_kind : kind_of (get_or s 0 0) ≡ None → None ≡ first_record s
      no_kind q = by_kind None q

      pub a_record : (k : Kind) → kind_of (get_or s 0 0) ≡ Some k → has k n ≡ true → Some (record { kind = k; length = n }) ≡ first_record s
      a_record k q p = let z = by_kind (Some k) q in rw p at z

      pub no_record : (k : Kind) → kind_of (get_or s 0 0) ≡ Some k → has k n ≡ false → None ≡ first_record s
      no_record k q p = let z = by_kind (Some k) q in rw p at z

-- ---- what a whole record says

no_none : {r : Record} → ◌≡◌ {A = Option Record} None (Some r) → ⊥
no_none e = let z : ◌≡◌ {A = ℕ} 0 1 = cc in omega arith

pub record Found (s : List ℕ) (k : Kind) (n : ℕ) : Type 0 where
  pub inside : n + 3 ≤ length s
  pub body : has k n ≡ true

pub record_found : (s : List ℕ) (k : Kind) (n : ℕ) → first_record s ≡ Some (record { kind = k; length = n }) → Found s k n
unfolding first_record
record_found s k n e = header (ltb (length s) 3) refl e
  where
    admitted : (j : Kind) (b : Bool) → 3 ≤ length s → number_at 2 s 1 ≤ length s - 3 → has j (number_at 2 s 1) ≡ b → ◌≡◌ {A = Option Record} (pick b (Some (record { kind = j; length = number_at 2 s 1 })) None) (Some (record { kind = k; length = n })) → Found s k n
    admitted j true h l u e =
        let r : ◌≡◌ {A = Record} (record { kind = j; length = number_at 2 s 1 }) (record { kind = k; length = n }) = cc in
        let i : j ≡ k = ap (λ (r : Record). r.kind) r in
        let z : number_at 2 s 1 ≡ n = ap (λ (r : Record). r.length) r in
        record { inside = rw (← z) (omega arith); body = rw (← i, ← z) u }
    admitted j false h l u e = absurd (no_none e)

    known : (j : Option Kind) → 3 ≤ length s → number_at 2 s 1 ≤ length s - 3 → with_body j (number_at 2 s 1) ≡ Some (record { kind = k; length = n }) → Found s k n
    known None h l e = absurd (no_none e)
    known (Some j) h l e = admitted j (has j (number_at 2 s 1)) h l refl e

    whole : (b : Bool) → 3 ≤ length s → ltb (length s - 3) (number_at 2 s 1) ≡ b → pick b None (with_body (kind_of (get_or s 0 0)) (number_at 2 s 1)) ≡ Some (record { kind = k; length = n }) → Found s k n
    whole true h u e = absurd (no_none e)
    whole false h u e = known (kind_of (get_or s 0 0)) h (ltb-false (length s - 3) (number_at 2 s 1) u) e

    header : (b : Bool) → ltb (length s) 3 ≡ b → pick b None (pick (ltb (length s - 3) (number_at 2 s 1)) None (with_body (kind_of (get_or s 0 0)) (number_at 2 s 1))) ≡ Some (record { kind = k; length = n }) → Found s k n
    header true u e = absurd (no_none e)
    header false u e = whole (ltb (length s - 3) (number_at 2 s 1)) (ltb-false (length s) 3 u) refl e

-- its bytes in a script, and in its body
pub record_inside : (s : List ℕ) (p n : ℕ) → p ≤ length s → n + 3 ≤ length (take (length s - p) (drop p s)) → p + (n + 3) ≤ length s
record_inside s p n h k = omega (arith, simp (length-take, length-drop) at k)

pub body-length : (s : List ℕ) (p n : ℕ) → p + n ≤ length s → length (take (p + n - p) (drop p s)) ≡ n
body-length s p n h = simp (length-take, length-drop) (omega arith)

pub script_begins : (s : List ℕ) (o : Opening) → begun s ≡ Some o → 22 ≤ length s
unfolding begun
script_begins s o e = go (ltb (length s) 22) refl e
  where
    go : (b : Bool) → ltb (length s) 22 ≡ b → ◌≡◌ {A = Option Opening} (pick b None (Some (opening_of s))) (Some o) → 22 ≤ length s
    go true u e = absurd (let z : ◌≡◌ {A = ℕ} 0 1 = cc in omega arith)
    go false u e = ltb-false (length s) 22 u
