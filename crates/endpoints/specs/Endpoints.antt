-- Endpoints and stored bindings, by name and address (docs/RULES.md, E).
use Rattle.std.specs.Prelude.{ℕ, zero, suc, Bool, true, false, not, ◌&&◌, ◌||◌, ◌≡◌, Option, None, Some, List, ◌∷◌, [], leb, eqb, length, replicate, get_or, set}
use Rattle.wire.specs.Choice.{pick}
use Rattle.wire.specs.Bytes.{same}
use Rattle.blocks.specs.Search.{all, Search, nowhere, found_at, is_found, first_from, any}
use Rattle.blocks.specs.Tables.{lies}
use Rattle.blocks.specs.Names.{padded_name}
use Rattle.endpoints.specs.declared.Stage.{Stage}
use Rattle.endpoints.specs.declared.Stage.TheVariants.{Unused, Waiting, Bound}
use Rattle.endpoints.specs.declared.Endpoint.{Endpoint}
use Rattle.endpoints.specs.declared.Binding.{Binding}

abbrev pub no_endpoint : Endpoint
no_endpoint = record { stage = Unused; address = 0; name = replicate 32 0 }

abbrev pub no_binding : Binding
no_binding = record { stored = false; address = 0; start = 0; count = 0; name = replicate 32 0 }

abbrev pub is_unused : Stage → Bool
is_unused Unused = true
is_unused Waiting = false
is_unused Bound = false

abbrev pub is_waiting : Stage → Bool
is_waiting Unused = false
is_waiting Waiting = true
is_waiting Bound = false

abbrev pub is_bound : Stage → Bool
is_bound Unused = false
is_bound Waiting = false
is_bound Bound = true

abbrev pub at : (Stage → Bool) → Endpoint → Bool
at f p = f p.stage

abbrev pub named : List ℕ → Endpoint → Bool
named n p = same p.name (padded_name n)

abbrev pub bound_at : ℕ → Endpoint → Bool
bound_at a p = at is_bound p && eqb p.address a

-- an initiator's endpoint has its address from when it is registered on, a follower's from when it is bound
abbrev pub has_address : Bool → Endpoint → Bool
has_address true p = not (at is_unused p)
has_address false p = at is_bound p

-- 15: whom an arriving data message of address a reaches
abbrev pub receives_at : Bool → ℕ → Endpoint → Bool
receives_at initiator a p = has_address initiator p && eqb p.address a

abbrev pub registered : List ℕ → Endpoint → Bool
registered n p = not (at is_unused p) && named n p

abbrev pub waiting_for : List ℕ → Endpoint → Bool
waiting_for n p = at is_waiting p && named n p

abbrev pub waiting_at : ℕ → Endpoint → Bool
waiting_at a p = at is_waiting p && eqb p.address a

-- a stored binding of this name. One whose blocks are not among the first c is none
abbrev pub holds : ℕ → List ℕ → Binding → Bool
holds c n b = all (b.stored ∷ same b.name (padded_name n) ∷ lies c b.start b.count ∷ [])

-- 21: an arriving binding's address or name belongs to these
abbrev pub clashes : ℕ → List ℕ → Endpoint → Bool
clashes a n p = at is_bound p && (eqb p.address a || named n p)

abbrev pub clashes_stored : ℕ → List ℕ → Binding → Bool
clashes_stored a n b = b.stored && (eqb b.address a || same b.name (padded_name n))

-- S4, E10: the lowest of the eight that passes
abbrev pub endpoint_at : (Endpoint → Bool) → List Endpoint → Search
endpoint_at f ps = first_from f no_endpoint ps 8 0

abbrev pub binding_at : (Binding → Bool) → List Binding → Search
binding_at f bs = first_from f no_binding bs 8 0

abbrev pub some_endpoint : (Endpoint → Bool) → List Endpoint → Bool
some_endpoint f ps = is_found (endpoint_at f ps)

abbrev pub some_binding : (Binding → Bool) → List Binding → Bool
some_binding f bs = is_found (binding_at f bs)

-- the endpoint that was found is bound to address a
abbrev pub bound_now : List Endpoint → ℕ → Search → List Endpoint
bound_now ps a nowhere = ps
bound_now ps a (found_at i) = set ps i (record { stage = Bound; address = a; name = (get_or ps i no_endpoint).name })

-- endpoint p uses address a
abbrev pub uses : ℕ → Endpoint → Bool
uses a p = not (at is_unused p) && eqb p.address a

-- E2: the lowest address from a on that no endpoint uses, at most f of them passed over
unfoldable pub unused_from : ℕ → ℕ → List Endpoint → ℕ
unused_from zero a ps = a
unused_from (suc f) a ps = pick (some_endpoint (uses a) ps) (unused_from f (suc a) ps) a

-- S5: 1 to m bytes, none zero
unfoldable pub good_name : ℕ → List ℕ → Bool
good_name m n = leb 1 (length n) && leb (length n) m && not (any (λ b. eqb b 0) n)

-- what the code's question whom a send's address reaches answers
abbrev pub IsAddressee : Option ℕ → ℕ → List Endpoint → Type 0
IsAddressee None a ps = some_endpoint (bound_at a) ps ≡ false
IsAddressee (Some x) a ps = (x ≡ a) × (some_endpoint (bound_at a) ps ≡ true)

-- ---- what the code searches for by a name: the same, of a name that is kept as m

abbrev pub registered_as : List ℕ → Endpoint → Bool
registered_as m p = not (at is_unused p) && same p.name m

abbrev pub waiting_as : List ℕ → Endpoint → Bool
waiting_as m p = at is_waiting p && same p.name m

abbrev pub clashes_as : ℕ → List ℕ → Endpoint → Bool
clashes_as a m p = at is_bound p && (eqb p.address a || same p.name m)

abbrev pub holds_as : ℕ → List ℕ → Binding → Bool
holds_as c m b = all (b.stored ∷ same b.name m ∷ lies c b.start b.count ∷ [])

abbrev pub clashes_stored_as : ℕ → List ℕ → Binding → Bool
clashes_stored_as a m b = b.stored && (eqb b.address a || same b.name m)
