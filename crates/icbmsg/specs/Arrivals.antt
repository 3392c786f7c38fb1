-- The rules of arriving control messages (docs/RULES.md, A and E).
use Rattle.std.specs.Prelude.{ℕ, zero, suc, ◌+◌, ◌-◌, ◌*◌, min, Bool, true, not, ◌&&◌, List, [], ◌∷◌, leb, ltb, eqb, length, set}
use Rattle.wire.specs.Choice.{pick}
use Rattle.wire.specs.Bytes.{from_little_endian, straight, positions, bytes_at}
use Rattle.wire.specs.Reads.{gives, reads, read_each}
use Rattle.blocks.specs.declared.Entry.{Entry}
use Rattle.icbmsg.specs.Regions.{block_count, block_size}
use Rattle.icbmsg.specs.Outcome.{nothing, control, delivery, Outcome, refused, accepted, Rule, check, guard}
use Rattle.blocks.specs.Search.{Search, nowhere, found_at, is_found}
use Rattle.blocks.specs.Tables.{entry, starts, all_free, freed, taken, blocks_for}
use Rattle.icbmsg.specs.Ends.{block_at, whole, found_or, changed, with_sent}
use Rattle.endpoints.specs.Endpoints.{receives_at, waiting_for, waiting_at, bound_now, clashes, clashes_stored, endpoint_at, binding_at, some_endpoint, some_binding}
use Rattle.blocks.specs.Names.{padded_name}
use Rattle.icbmsg.specs.Registering.{become}
use Rattle.blocks.specs.declared.Use.TheVariants.{SentData, SentBinding, ReceivedData, StoredBinding}
use Rattle.endpoints.specs.declared.Stage.TheVariants.{Bound}
use Rattle.icbmsg.specs.declared.Control.{Control}
use Rattle.icbmsg.specs.declared.Control.TheVariants.{TooShort, UnknownKind, DataSent, DataReleased, BindingSent, BindingReleased}
use Rattle.icbmsg.specs.declared.Region.{Region}
use Rattle.icbmsg.specs.End.{End}

-- A1: three bytes count. A first byte above 3 is 13; of the others, what is shorter is 12
abbrev pub kind : ℕ → ℕ → ℕ → Control
kind k a b = pick (eqb k 0) (DataSent a b) (pick (eqb k 1) (DataReleased b) (pick (eqb k 2) (BindingSent a b) (BindingReleased a b)))

abbrev pub decode : List ℕ → Control
decode [] = TooShort
decode (k ∷ []) = pick (ltb 3 k) UnknownKind TooShort
decode (k ∷ a ∷ []) = pick (ltb 3 k) UnknownKind TooShort
decode (k ∷ a ∷ b ∷ m) = pick (ltb 3 k) UnknownKind (kind k a b)

abbrev pub header_at : Region → ℕ → List ℕ
header_at g b = positions (straight (block_at g b)) 4

-- K of the message in receive block b
abbrev pub size_at : Region → ℕ → List ℕ → ℕ
size_at g b r = from_little_endian (bytes_at r (header_at g b))

-- refusal 17: K + 4 ends with the last block. Refusal 18: its blocks are free
abbrev pub fits_area : Region → ℕ → ℕ → Bool
fits_area g b k = leb (k + 4) ((block_count g - b) * block_size g)

abbrev pub are_free : List Entry → Region → ℕ → ℕ → Bool
are_free t g b k = all_free t b (blocks_for (block_size g) k)

-- the endpoint that a data message of address a reaches
abbrev pub receiver : End → ℕ → Search
receiver e a = endpoint_at (receives_at e.initiator a) e.endpoints

-- A2: its run is taken, with address and K. E4: the endpoint that it reaches is bound, also if it was waiting
abbrev pub delivered : End → ℕ → ℕ → ℕ → Outcome
delivered e a b k =
    accepted
    (changed e e.write e.read e.sent (taken e.held ReceivedData b (blocks_for (block_size e.rx) k) a k)
    (bound_now e.endpoints a (receiver e a)) e.bindings)
    (delivery a b k)

-- A2, kind 0, checks 14, 15, 16, 17, 18. A7: its size is read here and never again
unfoldable pub data_rule : End → ℕ → ℕ → Rule
data_rule e a b =
    guard (leb a 0xFD) 14 e
    (guard (is_found (receiver e a)) 15 e
    (guard (ltb b (block_count e.rx)) 16 e
    (read_each (header_at e.rx b) (λ h. let k : ℕ = from_little_endian h in guard (fits_area e.rx b k) 17 e
    (guard (are_free e.held e.rx b k) 18 e
    (gives (delivered e a b k)))))))

-- A3, kind 1, checks 16, 25: sent data is freed. B7: by the count in its entry
unfoldable pub release_of : End → ℕ → Outcome
release_of e b =
    check (ltb b (block_count e.tx)) 16 e
    (check (starts SentData (block_count e.tx) e.sent b) 25 e
    (accepted (with_sent e (freed e.sent b (entry e.sent b).count)) nothing))

-- A5, kind 3, checks 14, 16, 25: the sent binding is freed, and the endpoint that waits at its address is bound; none does where data came first
unfoldable pub released_bound_of : End → ℕ → ℕ → Outcome
released_bound_of e a b =
    check (leb a 0xFD) 14 e
    (check (ltb b (block_count e.tx)) 16 e
    (check (starts SentBinding (block_count e.tx) e.sent b && eqb (entry e.sent b).address a) 25 e
    (accepted
    (changed e e.write e.read (freed e.sent b (entry e.sent b).count) e.held
    (bound_now e.endpoints a (endpoint_at (waiting_at a) e.endpoints)) e.bindings)
    nothing)))

-- E8: the binding is stored at place j, with its padded name and no K, and its n blocks are held
abbrev pub binding_stored : End → ℕ → ℕ → ℕ → List ℕ → ℕ → Outcome
binding_stored e a b n kept j =
    accepted
    (changed e e.write e.read e.sent (taken e.held StoredBinding b n a 0) e.endpoints
    (set e.bindings j (record { stored = true; address = a; start = b; count = n; name = kept })))
    nothing

abbrev pub stored_at : End → ℕ → ℕ → ℕ → List ℕ → Outcome
stored_at e a b n kept = found_or 22 e (binding_stored e a b n kept) (binding_at (λ x. not x.stored) e.bindings)

-- E7: the endpoint that waits for the name is bound, and 03 address start is for the partner; where none waits, E8
abbrev pub bound_to : End → ℕ → ℕ → ℕ → List ℕ → Search → Outcome
bound_to e a b n name nowhere = stored_at e a b n (padded_name name)
bound_to e a b n name (found_at i) =
    accepted (changed e e.write e.read e.sent e.held (become e i Bound a name) e.bindings) (control 3 a b)

-- 20, 21, 22, with the name
unfoldable pub bound_named : End → ℕ → ℕ → ℕ → List ℕ → Outcome
bound_named e a b n name =
    check (leb 1 (length name)) 20 e
    (check (not (some_endpoint (clashes a name) e.endpoints) && not (some_binding (clashes_stored a name) e.bindings)) 21 e
    (bound_to e a b n name (endpoint_at (waiting_for name) e.endpoints)))

-- E6: the name as far as its first zero, of at most n bytes from p on; 20 where none is zero
abbrev pub up_to_zero : End → ℕ → ℕ → (List ℕ → Rule) → Rule
up_to_zero e zero p k = gives (refused e 20)
up_to_zero e (suc n) p k = reads p (λ c. pick (eqb c 0) (k []) (up_to_zero e n (suc p) (λ cs. k (c ∷ cs))))

-- 17, 18, with K
unfoldable pub bound_sized : End → ℕ → ℕ → ℕ → Rule
bound_sized e a b k =
    guard (fits_area e.rx b k) 17 e
    (guard (are_free e.held e.rx b k) 18 e
    (up_to_zero e (min k 32) (block_at e.rx b + 4) (λ name. gives (bound_named e a b (blocks_for (block_size e.rx) k) name))))

-- A4, kind 2, checks 19, 14, 16, and behind them 17, 18, 20, 21, 22
unfoldable pub bound_rule : End → ℕ → ℕ → Rule
bound_rule e a b =
    guard (not e.initiator) 19 e
    (guard (leb a 0xFD) 14 e
    (guard (ltb b (block_count e.rx)) 16 e
    (read_each (header_at e.rx b) (λ h. bound_sized e a b (from_little_endian h)))))

abbrev pub decoded_rule : End → Control → Rule
decoded_rule e UnknownKind = gives (refused e 13)
decoded_rule e TooShort = gives (refused e 12)
decoded_rule e (DataSent a b) = data_rule e a b
decoded_rule e (DataReleased b) = gives (release_of e b)
decoded_rule e (BindingSent a b) = bound_rule e a b
decoded_rule e (BindingReleased a b) = gives (released_bound_of e a b)

unfoldable pub arrival_rule : End → ℕ → List ℕ → Rule
arrival_rule e n m = guard (whole e e.rx n) 6 e (decoded_rule e (decode m))
