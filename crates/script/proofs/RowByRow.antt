-- The rows of a script, one record after the other.
use Prim.Native.Nat.{ℕ, ◌+◌, ◌-◌, ◌≤◌}
use mathlib.Core.Path.{◌≡◌, sym, ap, ◌∙◌}
use mathlib.Core.List.{List}
use native.Mathlib.Omega.{arith}
use lib.ListN.{length, take, drop, length-drop}
use lib.Seq.{take_all, drop-drop}
use Rattle.link.specs.Answers.{end_of}
use Rattle.script.specs.Records.{begun, first_record}
use Rattle.script.specs.Script.{opening_step, with_row, Result, goes, Runs, runs, IsLeft, left_step, LeftLeaves, RowsFrom}
use Rattle.icbmsg.specs.declared.Opening.{Opening}
use Rattle.std.specs.Prelude.{Some}
use Rattle.script.specs.declared.kinds.Kind.{Kind}
use Rattle.script.specs.declared.Left.{Left}

-- the rest of a script, as the code lends it
pub whole-rest : (s : List ℕ) (p : ℕ) → take (length s - p) (drop p s) ≡ drop p s
whole-rest s p = take_all (length s - p) (drop p s) (omega (arith, length-drop p s))

-- a record's body, as the code lends it
body-there : (s : List ℕ) (p l : ℕ) → take (p + 3 + l - (p + 3)) (drop (p + 3) s) ≡ take l (drop 3 (drop p s))
body-there s p l = let e : p + 3 + l - (p + 3) ≡ l = omega arith in rw e (ap (take l) (sym (drop-drop 3 p s)))

rest-there : (s : List ℕ) (p l : ℕ) → drop (p + 3 + l) s ≡ drop (3 + l) (drop p s)
rest-there s p l = let e : p + 3 + l ≡ p + (3 + l) = omega arith in ap (λ (n : ℕ). drop n s) e ∙ sym (drop-drop (3 + l) p s)

module _ (s : List ℕ) (p : ℕ) (k : Kind) (l w : ℕ) (left left' : Left) (tx rx buffer out tx' rx' buffer' out' : List ℕ) where
  abbrev body : List ℕ
  body = take (p + 3 + l - (p + 3)) (drop (p + 3) s)

  pub one_row : first_record (take (length s - p) (drop p s)) ≡ Some (record { kind = k; length = l }) → w + 56 ≤ length out → LeftLeaves left k body tx rx buffer tx' rx' buffer' →
      IsLeft left' (left_step left k body tx rx buffer) → out' ≡ with_row out w (left_step left k body tx rx buffer) tx' rx' buffer' →
      (r : Result) → RowsFrom (drop (p + 3 + l) s) (w + 56) left' tx' rx' buffer' out' r → RowsFrom (drop p s) w left tx rx buffer out r
  one_row f room m h o r x =
      goes {s = drop p s} {w = w} {e = end_of left.end} {n = left.lent.tx} {m = left.lent.rx} {tx = tx} {rx = rx} {buffer = buffer} {out = out} {r = r} k l tx' rx' buffer' (ap first_record (sym (whole-rest s p)) ∙ f) room (rw (← (body-there s p l)) m) (left_step left k body tx rx buffer)
      (ap (λ (x : List ℕ). left_step left k x tx rx buffer) (body-there s p l))
      (rw (← o, ← h.end, ← h.lent_tx, ← h.lent_rx, ← (rest-there s p l)) x)

-- the row of the opening comes first
pub opening_row : (s tx rx buffer out out₁ : List ℕ) (o : Opening) (left : Left) (r : Result) → IsLeft left (opening_step o) → out₁ ≡ with_row out 0 (opening_step o) tx rx buffer →
    begun s ≡ Some o → 56 ≤ length out → RowsFrom (drop 22 s) 56 left tx rx buffer out₁ r → Runs s tx rx buffer out r
opening_row s tx rx buffer out out₁ o left r h e b l x = runs {r = r} o b l (rw (← e, ← h.end, ← h.lent_tx, ← h.lent_rx) x)
