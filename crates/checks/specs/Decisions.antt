-- What the code's decisions say of a rule: a refusal is the rule's outcome; else the outcome is written out, with what its blocks need.
use Rattle.std.specs.Prelude.{ℕ, ◌+◌, ◌*◌, ◌^◌, ◌≤◌, ◌<◌, Bool, true, List, ◌≡◌, Result, Ok, Err, leb, length, set}
use Rattle.wire.specs.Bytes.{little_endian, straight, writes}
use Rattle.wire.specs.Choice.{pick}
use Rattle.wire.specs.Reads.{answer}
use Rattle.refusal.specs.Numbers.{number_of}
use Rattle.blocks.specs.Search.{found_at}
use Rattle.blocks.specs.Names.{padded_name}
use Rattle.blocks.specs.Tables.{entry, starts, freed, taken, blocks_for, free_run}
use Rattle.blocks.specs.declared.Use.TheVariants.{Reserved, SentData, SentBinding, ReceivedData, StoredBinding}
use Rattle.blocks.specs.declared.Entry.{Entry}
use Rattle.endpoints.specs.Endpoints.{waiting_at, bound_now, endpoint_at, binding_at, holds, good_name}
use Rattle.endpoints.specs.declared.Endpoint.{Endpoint}
use Rattle.endpoints.specs.declared.Binding.{Binding}
use Rattle.endpoints.specs.declared.Stage.TheVariants.{Bound}
use Rattle.icbmsg.specs.Regions.{block_count, block_size}
use Rattle.icbmsg.specs.Outcome.{nothing, control, delivery, Outcome, refused, accepted, written, check}
use Rattle.icbmsg.specs.Ends.{whole, block_at, found_or, changed, with_sent}
use Rattle.icbmsg.specs.Messages.{reserve_of, reservation, send_of}
use Rattle.icbmsg.specs.Arrivals.{data_rule, released_bound_of, bound_named, bound_rule}
use Rattle.icbmsg.specs.Registering.{initiates, followed, register_of}
use Rattle.icbmsg.specs.End.{End}
use Rattle.icbmsg.specs.declared.Region.{Region}
use Rattle.icbmsg.specs.declared.Numbers.{Numbers}
use Rattle.checks.specs.Parts.{joined}
use Rattle.refusal.specs.declared.Refusal.{Refusal}
use Rattle.checks.specs.declared.Blocks.{Blocks}
use Rattle.checks.specs.declared.Sending.{Sending}
use Rattle.checks.specs.declared.arrivals.Delivery.{Delivery}
use Rattle.checks.specs.declared.arrivals.Binds.{Binds}
use Rattle.checks.specs.declared.arrivals.Binds.TheVariants.{Waiting, Stored}
use Rattle.checks.specs.declared.arrivals.Named.{Named}
use Rattle.checks.specs.declared.registrations.Registering.{Registering}

-- behind a check p of number n: the run that the test b of its first entry x finds, or 25
abbrev pub RunAs : Result Entry Refusal → ℕ → Bool → Bool → Entry → Type 0
RunAs (Err y) n p b x = (e : End) (o : Outcome) → check p n e (check b 25 e o) ≡ refused e (number_of y)
RunAs (Ok z) n p b x = (p ≡ true) × (b ≡ true) × (z ≡ x)

-- 23, 24: for K bytes in the region g, whose table is t
abbrev pub FitAs : Result Blocks Refusal → Region → List Entry → ℕ → Type 0
FitAs (Err x) g t k =
    (e : End) (f : ℕ → Outcome) →
    check (leb (blocks_for (block_size g) k) (block_count g)) 23 e (found_or 24 e f (free_run (block_count g) t (blocks_for (block_size g) k))) ≡ refused e (number_of x)
FitAs (Ok r) g t k =
    (r.count ≡ blocks_for (block_size g) k) × (r.count ≤ block_count g) × (free_run (block_count g) t r.count ≡ found_at r.start) × (1 ≤ r.count)
    × (r.start + r.count ≤ block_count g)

abbrev pub ReservesAs : Result Blocks Refusal → Numbers → List ℕ → ℕ → Type 0
ReservesAs (Err x) n t k =
    (ps : List Endpoint) (bs : List Binding) → reserve_of (joined n t ps bs) k ≡ refused (joined n t ps bs) (number_of x)
ReservesAs (Ok r) n t k =
    (r.count ≡ blocks_for (block_size n.tx) k) × (1 ≤ r.count) × (r.start + r.count ≤ 256)
    × ((ps : List Endpoint) (bs : List Binding) → reserve_of (joined n t ps bs) k ≡ reservation (joined n t ps bs) k r.start)

-- n bytes lent, the reservation at s, address a, K bytes: the blocks that are held and those that are needed
abbrev pub SendAs : Result Sending Refusal → End → ℕ → ℕ → ℕ → ℕ → Type 0
SendAs (Err x) e n s a k = send_of e n s a k ≡ refused e (number_of x)
SendAs (Ok r) e n s a k =
    (send_of e n s a k
    ≡ written (with_sent e (taken (freed e.sent s r.held) SentData s r.count a k)) (control 0 a s) (writes (straight (block_at e.tx s)) (little_endian 4 k)))
    × (r.address ≡ a) × (whole e e.tx n ≡ true) × (starts Reserved (block_count e.tx) e.sent s ≡ true) × (r.held ≡ (entry e.sent s).count)
    × (1 ≤ r.count) × (r.count ≤ r.held) × (k + 4 ≤ r.held * block_size e.tx)

abbrev pub Sends : Result Sending Refusal → Numbers → List ℕ → List Endpoint → ℕ → ℕ → ℕ → ℕ → Type 0
Sends r n t ps l s a k = (bs : List Binding) → SendAs r (joined n t ps bs) l s a k

-- the receive bytes r: the endpoint at its place gets the bytes in their blocks, and is bound
abbrev pub DataAs : Result Delivery Refusal → End → ℕ → ℕ → List ℕ → Type 0
DataAs (Err x) e a b r = answer (data_rule e a b) r ≡ refused e (number_of x)
DataAs (Ok d) e a b r =
    (answer (data_rule e a b) r
    ≡ accepted
    (changed e e.write e.read e.sent (taken e.held ReceivedData b d.count a d.length) (bound_now e.endpoints a (found_at d.place)) e.bindings)
    (delivery a b d.length))
    × (1 ≤ d.count) × (b + d.count ≤ 256) × (d.length < 2 ^ 24) × (d.place < 8)

abbrev pub Delivers : Result Delivery Refusal → Numbers → List ℕ → List Endpoint → ℕ → ℕ → List ℕ → Type 0
Delivers m n t ps a b r = (bs : List Binding) → DataAs m (joined n t ps bs) a b r

abbrev pub ReleaseAs : Result Entry Refusal → End → ℕ → ℕ → Type 0
ReleaseAs (Err x) e a b = released_bound_of e a b ≡ refused e (number_of x)
ReleaseAs (Ok z) e a b =
    (released_bound_of e a b
    ≡ accepted
    (changed e e.write e.read (freed e.sent b z.count) e.held (bound_now e.endpoints a (endpoint_at (waiting_at a) e.endpoints)) e.bindings)
    nothing)
    × (starts SentBinding (block_count e.tx) e.sent b ≡ true) × (z ≡ entry e.sent b)

abbrev pub Releases : Result Entry Refusal → Numbers → List ℕ → ℕ → ℕ → Type 0
Releases r n t a b = (ps : List Endpoint) (bs : List Binding) → ReleaseAs r (joined n t ps bs) a b

-- a binding of address a in m blocks from b on, and of the kept name: the waiting endpoint i is bound, or it is stored at place j
abbrev pub BindAs : Result Binds Refusal → End → ℕ → ℕ → ℕ → List ℕ → Outcome → Type 0
BindAs (Err x) e a b m kept o = o ≡ refused e (number_of x)
BindAs (Ok (Waiting i)) e a b m kept o =
    o
    ≡ accepted (changed e e.write e.read e.sent e.held (set e.endpoints i (record { stage = Bound; address = a; name = kept })) e.bindings)
    (control 3 a b)
BindAs (Ok (Stored j)) e a b m kept o =
    o
    ≡ accepted
    (changed e e.write e.read e.sent (taken e.held StoredBinding b m a 0) e.endpoints
    (set e.bindings j (record { stored = true; address = a; start = b; count = m; name = kept })))
    nothing

-- for each end with these endpoints and bindings, each name of l bytes that is kept so, and any blocks
abbrev pub BindsAs : Result Binds Refusal → List Endpoint → List Binding → List ℕ → ℕ → ℕ → Type 0
BindsAs r ps bs kept l a =
    (e : End) (b m : ℕ) (its : List ℕ) → e.endpoints ≡ ps → e.bindings ≡ bs → kept ≡ padded_name its → length its ≡ l → BindAs r e a b m kept (bound_named e a b m its)

-- the place of what becomes of a binding is one of eight
abbrev pub PlacedIn : Result Binds Refusal → Type 0
PlacedIn (Err x) = Unit {0}
PlacedIn (Ok (Waiting i)) = i < 8
PlacedIn (Ok (Stored j)) = j < 8

-- the blocks of what is not refused lie in a table
abbrev pub NamedAs : Result Named Refusal → End → ℕ → ℕ → List ℕ → Type 0
NamedAs (Err x) e a b l = answer (bound_rule e a b) l ≡ refused e (number_of x)
NamedAs (Ok r) e a b l = BindAs (Ok r.binds) e a b r.count r.name (answer (bound_rule e a b) l) × (1 ≤ r.count) × (b + r.count ≤ 256) × PlacedIn (Ok r.binds)

-- the endpoint of this name gets its place; l bytes are lent
abbrev pub PlaceAs : Result Registering Refusal → End → ℕ → List ℕ → Type 0
PlaceAs (Err x) e l n = register_of e l n ≡ refused e (number_of x)
PlaceAs (Ok r) e l n =
    (register_of e l n ≡ pick e.initiator (initiates e n r.place) (followed e n r.place (binding_at (holds (block_count e.rx) n) e.bindings)))
    × (whole e e.tx l ≡ true) × (good_name 31 n ≡ true) × (r.name ≡ padded_name n) × (r.place < 8)

abbrev pub Registers : Result Registering Refusal → Numbers → List Endpoint → ℕ → List ℕ → Type 0
Registers r n ps l name = (t : List ℕ) (bs : List Binding) → PlaceAs r (joined n t ps bs) l name
