-- A claim on the outcome of a rule: it holds past each check, if it holds of the check's refusal and of what comes behind.
use Prim.Native.Nat.{ℕ}
use mathlib.Core.Bool.{Bool, true, false}
use mathlib.Core.Path.{◌≡◌, refl}
use Rattle.wire.specs.Choice.{pick}
use Rattle.blocks.specs.Search.{Search, nowhere, found_at}
use Rattle.icbmsg.specs.Outcome.{Outcome, refused, check}
use Rattle.icbmsg.specs.Ends.{found_or}
use Rattle.icbmsg.specs.End.{End}

pub record Claim (P : Outcome → Type 0) (o : Outcome) : Type 0 where
  pub holds : P o

pub past : {P : Outcome → Type 0} {o : Outcome} (e : End) (b : Bool) (n : ℕ) → P (refused e n) → (b ≡ true → Claim P o) → Claim P (check b n e o)
past e true n r k = k refl
past e false n r k = record { holds = r }

pub past-found : {P : Outcome → Type 0} {o : ℕ → Outcome} (e : End) (q : Search) (n : ℕ) → P (refused e n) → ((i : ℕ) → q ≡ found_at i → Claim P (o i)) → Claim P (found_or n e o q)
past-found e nowhere n r k = record { holds = r }
past-found e (found_at i) n r k = k i refl

pub past-picked : {P : Outcome → Type 0} {o o' : Outcome} (b : Bool) → Claim P o → Claim P o' → Claim P (pick b o o')
past-picked true h k = h
past-picked false h k = k
