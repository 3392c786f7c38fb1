-- The tests that make calls total refuse nothing more in any end that is reached.
use Prim.Native.Nat.{ℕ, ◌+◌, ◌*◌}
use mathlib.Core.Bool.{Bool, true, false, ◌&&◌}
use mathlib.Core.Path.{◌≡◌, refl, ap, ◌∙◌}
use mathlib.Core.List.{List, [], ◌∷◌}
use native.Mathlib.Omega.{arith}
use lib.Dec.{leb, ltb}
use borrow.Author.Tests.{le-leb, lt-ltb}
use Rattle.wire.specs.Choice.{pick}
use Rattle.wire.specs.Bytes.{same}
use Rattle.blocks.specs.Search.{all}
use Rattle.blocks.specs.Tables.{entry, is_use, lies, starts, starts_data, in_use}
use Rattle.blocks.specs.Names.{padded_name}
use Rattle.blocks.specs.WellFormed.{leading, block_kind, WellFormed}
use Rattle.blocks.specs.declared.Use.{Use}
use Rattle.blocks.specs.declared.Use.TheVariants.{Reserved, SentData, SentBinding, ReceivedData}
use Rattle.blocks.specs.declared.Entry.{Entry}
use Rattle.blocks.proofs.Tables.{each, use_is}
use Rattle.endpoints.specs.Endpoints.{holds}
use Rattle.endpoints.specs.declared.Binding.{Binding}
use Rattle.icbmsg.specs.WellFormed.{held_run, binding_of, Stored}
use Rattle.icbmsg.specs.Theorems.{NothingAdded}
use Rattle.icbmsg.specs.declared.Region.{Region}
use Rattle.icbmsg.proofs.Separate.{separate}

-- in a table in order a use of a live run is enough
starts-used : (g : Region) {good : Entry → Bool} {t : List Entry} → WellFormed g.block_count good t → (u : Use) → block_kind u ≡ leading → (s : ℕ) → starts u g.block_count t s ≡ in_use u t s
starts-used g {t = t} o u k s = go (in_use u t s) refl
  where
    go : (b : Bool) → in_use u t s ≡ b → pick b (all (lies g.block_count s (entry t s).count ∷ [])) false ≡ b
    go false q = refl
    go true q =
        let w = o.within s (ap block_kind (use_is u (entry t s).usage q) ∙ k) in
        each (lies g.block_count s (entry t s).count ∷ [])
        (each (ltb s g.block_count ∷ leb 1 (entry t s).count ∷ leb (s + (entry t s).count) g.block_count ∷ []) (omega (arith, le-leb, lt-ltb)), tt)

received_long : (g : Region) (x : Entry) → held_run g x ≡ true → is_use ReceivedData x.usage ≡ true → leb (x.length + 4) (x.count * g.block_size) ≡ true
received_long g x h r = rw (use_is ReceivedData x.usage r) at h

received_used : (g : Region) {t : List Entry} → WellFormed g.block_count (held_run g) t → (s : ℕ) → starts_data g.block_count g.block_size t s ≡ in_use ReceivedData t s
received_used g {t} o s = rw (starts-used g o ReceivedData refl s) (go (in_use ReceivedData t s) refl)
  where
    go : (b : Bool) → in_use ReceivedData t s ≡ b → pick b (all (leb ((entry t s).length + 4) ((entry t s).count * g.block_size) ∷ [])) false ≡ b
    go false q = refl
    go true q = rw (received_long g (entry t s) (o.passes s (rw (use_is ReceivedData (entry t s).usage q))) q)

pub stored-holds : (g : Region) {t : List Entry} {bs : List Binding} → WellFormed g.block_count (held_run g) t → Stored t bs → (n : List ℕ) (j : ℕ) →
    holds g.block_count n (binding_of bs j) ≡ ((binding_of bs j).stored && same (binding_of bs j).name (padded_name n))
stored-holds g {t} {bs} o w n j = go (binding_of bs j).stored (same (binding_of bs j).name (padded_name n)) refl
  where
    go : (k s : Bool) → (binding_of bs j).stored ≡ k → pick k (pick s (all (lies g.block_count (binding_of bs j).start (binding_of bs j).count ∷ [])) false) false ≡ (k && s)
    go false s q = refl
    go true false q = refl
    go true true q =
        let r = w.runs j q in
        let z = o.within (binding_of bs j).start (rw r.0) in
        each (lies g.block_count (binding_of bs j).start (binding_of bs j).count ∷ [])
        (each (ltb (binding_of bs j).start g.block_count ∷ leb 1 (binding_of bs j).count ∷ leb ((binding_of bs j).start + (binding_of bs j).count) g.block_count ∷ []) (omega (arith, le-leb, lt-ltb)), tt)

pub nothing_added : NothingAdded
nothing_added e r =
    let w = separate e r in
    record {
      reserved = starts-used e.tx w.sent Reserved refl;
      sent_data = starts-used e.tx w.sent SentData refl;
      sent_binding = starts-used e.tx w.sent SentBinding refl;
      received_data = received_used e.rx w.held;
      stored_binding = stored-holds e.rx w.held w.stored;
    }
