-- An endpoint that is bound, and one bound where a search ended.
use Prim.Native.Nat.{ℕ}
use mathlib.Core.Bool.{true, false≢true}
use mathlib.Core.Path.{◌≡◌, refl}
use mathlib.Core.List.{List}
use lib.Dec.{eqb}
use lib.ListN.{get_or}
use lib.Seq.{set-get_or}
use borrow.Author.Tests.{eqb-true}
use Rattle.wire.proofs.Choices.{both}
use Rattle.blocks.specs.Search.{Search, nowhere, found_at}
use Rattle.endpoints.specs.Endpoints.{is_bound, at, bound_at, bound_now, no_endpoint}
use Rattle.endpoints.specs.declared.Endpoint.{Endpoint}
use Rattle.endpoints.specs.declared.Stage.{Stage}
use Rattle.endpoints.specs.declared.Stage.TheVariants.{Unused, Waiting, Bound}

-- one that is bound
pub bound_is : (p : Endpoint) → at is_bound p ≡ true → record { stage = Bound; address = p.address; name = p.name } ≡ p
bound_is p h = go p.stage refl h
  where
    go : (s : Stage) → p.stage ≡ s → is_bound s ≡ true → record { stage = Bound; address = p.address; name = p.name } ≡ p
    go Unused q h = absurd (false≢true h)
    go Waiting q h = absurd (false≢true h)
    go Bound q h = rw (← q)

-- an endpoint bound where a search ended
module _ (ps : List Endpoint) (a : ℕ) where
  pub bound_already : (i : ℕ) → bound_at a (get_or ps i no_endpoint) ≡ true → bound_now ps a (found_at i) ≡ ps
  bound_already i h =
      let p : Endpoint = get_or ps i no_endpoint in
      let y = both (at is_bound p) (eqb p.address a) h in
      rw (← (eqb-true p.address a y.1), bound_is p y.0) (set-get_or ps i no_endpoint)

  module _ (q : Search) where
    pub none_waits : q ≡ nowhere → ps ≡ bound_now ps a q
    none_waits h = rw h

    pub one_waits : (i : ℕ) → q ≡ found_at i → bound_now ps a (found_at i) ≡ bound_now ps a q
    one_waits i h = rw h
