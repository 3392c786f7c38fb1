-- The rule of register (docs/RULES.md, E).
use Rattle.std.specs.Prelude.{ℕ, ◌+◌, not, List, [], ◌∷◌, ◌++◌, length, get_or, set}
use Rattle.wire.specs.Choice.{pick}
use Rattle.wire.specs.Bytes.{little_endian, straight, writes}
use Rattle.icbmsg.specs.Regions.{block_count}
use Rattle.icbmsg.specs.Outcome.{nothing, control, Outcome, Rule, accepted, written, check}
use Rattle.blocks.specs.Search.{Search, nowhere, found_at}
use Rattle.blocks.specs.Tables.{freed, taken}
use Rattle.icbmsg.specs.Ends.{block_at, whole, found_or, changed}
use Rattle.icbmsg.specs.Rings.{all_or_nothing}
use Rattle.icbmsg.specs.Messages.{need, reserving}
use Rattle.endpoints.specs.Endpoints.{no_binding, is_unused, at, registered, holds, endpoint_at, binding_at, some_endpoint, unused_from, good_name}
use Rattle.blocks.specs.Names.{padded_name}
use Rattle.blocks.specs.declared.Use.TheVariants.{SentBinding}
use Rattle.endpoints.specs.declared.Stage.{Stage}
use Rattle.endpoints.specs.declared.Stage.TheVariants.{Waiting, Bound}
use Rattle.endpoints.specs.declared.Endpoint.{Endpoint}
use Rattle.endpoints.specs.declared.Binding.{Binding}
use Rattle.icbmsg.specs.End.{End}

-- endpoint i becomes this
abbrev pub become : End → ℕ → Stage → ℕ → List ℕ → List Endpoint
become e i s a n = set e.endpoints i (record { stage = s; address = a; name = padded_name n })

-- E3, E4: at block s stand header, name and zero, 02 address start is for the partner, and the endpoint waits
abbrev pub announcement : End → List ℕ → ℕ → ℕ → ℕ → Outcome
announcement e n i a s =
    written
    (changed e e.write e.read (taken e.sent SentBinding s (need e (length n + 1)) a (length n + 1)) e.held (become e i Waiting a n) e.bindings)
    (control 2 a s) (writes (straight (block_at e.tx s)) (little_endian 4 (length n + 1) ++ n ++ (0 ∷ [])))

-- E5, where the stored binding b has the name: it is forgotten at place j and its blocks are freed, the endpoint is bound to its address, and
-- 03 address start is for the partner
abbrev pub bound_to_stored : End → List ℕ → ℕ → ℕ → Binding → Outcome
bound_to_stored e n i j b =
    accepted
    (changed e e.write e.read e.sent (freed e.held b.start b.count) (become e i Bound b.address n) (set e.bindings j no_binding))
    (control 3 b.address b.start)

-- E5, where none has it
abbrev pub waits : End → List ℕ → ℕ → Outcome
waits e n i = accepted (changed e e.write e.read e.sent e.held (become e i Waiting 0 n) e.bindings) nothing

abbrev pub followed : End → List ℕ → ℕ → Search → Outcome
followed e n i nowhere = waits e n i
followed e n i (found_at j) = bound_to_stored e n i j (get_or e.bindings j no_binding)

-- E2: the lowest unused address, then blocks for the name and its zero (23, 24)
unfoldable pub initiates : End → List ℕ → ℕ → Outcome
initiates e n i = reserving e (length n + 1) (announcement e n i (unused_from 8 0 e.endpoints))

-- E1, checks 20, 21, 22: l bytes are lent, the name is n; so much before the ring
unfoldable pub register_of : End → ℕ → List ℕ → Outcome
register_of e l n =
    check (whole e e.tx l) 6 e
    (check (good_name 31 n) 20 e
    (check (not (some_endpoint (registered n) e.endpoints)) 21 e
    (found_or 22 e
    (λ i. pick e.initiator (initiates e n i) (followed e n i (binding_at (holds (block_count e.rx) n) e.bindings)))
    (endpoint_at (at is_unused) e.endpoints))))

abbrev pub register_rule : End → ℕ → List ℕ → Rule
register_rule e l n = all_or_nothing e l (register_of e l n)
