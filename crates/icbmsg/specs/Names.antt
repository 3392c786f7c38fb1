-- Names and addresses: each belongs to one endpoint or one stored binding, and each binding sent to one endpoint.
use Rattle.std.specs.Prelude.{ℕ, ◌≤◌, ◌<◌, Bool, true, false, not, ◌≡◌, List, get_or}
use Rattle.blocks.specs.Tables.{entry}
use Rattle.endpoints.specs.Endpoints.{no_endpoint, at, is_unused, is_waiting, has_address}
use Rattle.icbmsg.specs.WellFormed.{binding_of, IsKept}
use Rattle.icbmsg.specs.Theorems.{Reached}
use Rattle.blocks.specs.declared.Use.TheVariants.{SentBinding}
use Rattle.blocks.specs.declared.Entry.{Entry}
use Rattle.endpoints.specs.declared.Endpoint.{Endpoint}
use Rattle.endpoints.specs.declared.Binding.{Binding}
use Rattle.icbmsg.specs.End.{End}

abbrev pub endpoint_of : List Endpoint → ℕ → Endpoint
endpoint_of ps i = get_or ps i no_endpoint

-- waiting or bound
abbrev pub is_used : Endpoint → Bool
is_used p = not (at is_unused p)

-- a binding's message is sent, and not released yet, in the run at s
abbrev pub IsAnnounced : List Entry → ℕ → Type 0
IsAnnounced t s = (entry t s).usage ≡ SentBinding

-- Of the endpoints that pass a test, and the stored bindings, no two have the same: f of an endpoint is no other's f, nor a binding's g.
pub record Once {A : Type 0} (test : Endpoint → Bool) (f : Endpoint → A) (g : Binding → A) (ps : List Endpoint) (bs : List Binding) : Type 0 where
  pub endpoints : (i j : ℕ) → test (endpoint_of ps i) ≡ true → test (endpoint_of ps j) ≡ true → f (endpoint_of ps i) ≡ f (endpoint_of ps j) → i ≡ j
  pub bindings : (i j : ℕ) → IsKept bs i → IsKept bs j → g (binding_of bs i) ≡ g (binding_of bs j) → i ≡ j
  pub apart : (i j : ℕ) → test (endpoint_of ps i) ≡ true → IsKept bs j → f (endpoint_of ps i) ≡ g (binding_of bs j) → ⊥

-- exactly one endpoint in use has address a
pub record UsedOnce (ps : List Endpoint) (a : ℕ) : Type 0 where
  pub index : ℕ
  pub below : index < 8
  pub used : is_used (endpoint_of ps index) ≡ true
  pub its_address : (endpoint_of ps index).address ≡ a
  pub only : (j : ℕ) → is_used (endpoint_of ps j) ≡ true → (endpoint_of ps j).address ≡ a → j ≡ index

pub record NamesAndAddresses (e : End) : Type 0 where
  -- The address of each binding sent is that of one endpoint in use: it waits, or, as Completion has it, data has bound it. And each waiting
  -- endpoint of an initiator has its binding still sent.
  pub announced : (s : ℕ) → IsAnnounced e.sent s → UsedOnce e.endpoints (entry e.sent s).address
  pub awaited : e.initiator ≡ true → (i : ℕ) → at is_waiting (endpoint_of e.endpoints i) ≡ true →
      (s : ℕ) × IsAnnounced e.sent s × ((entry e.sent s).address ≡ (endpoint_of e.endpoints i).address)
  -- no two bindings sent have the same address; a follower sends none, and an initiator stores none
  pub follower_sends_none : e.initiator ≡ false → (s : ℕ) → IsAnnounced e.sent s → ⊥
  pub initiator_stores_none : e.initiator ≡ true → (j : ℕ) → IsKept e.bindings j → ⊥
  pub sent_once : (s s' : ℕ) → IsAnnounced e.sent s → IsAnnounced e.sent s' → (entry e.sent s).address ≡ (entry e.sent s').address → s ≡ s'
  -- no name is used twice, by endpoints in use and stored bindings
  pub names : Once is_used (λ p. p.name) (λ b. b.name) e.endpoints e.bindings
  -- no address is had twice, by endpoints that have one and stored bindings, and none is above 0xFD
  pub addresses : Once (has_address e.initiator) (λ p. p.address) (λ b. b.address) e.endpoints e.bindings
  pub endpoints_low : (i : ℕ) → has_address e.initiator (endpoint_of e.endpoints i) ≡ true → (endpoint_of e.endpoints i).address ≤ 0xFD
  pub bindings_low : (j : ℕ) → IsKept e.bindings j → (binding_of e.bindings j).address ≤ 0xFD

abbrev pub NamesKept : Type 0
NamesKept = (e : End) → Reached e → NamesAndAddresses e
