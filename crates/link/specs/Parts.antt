-- What a call says that uses parts of an end alone: answer and next parts are those of the rule, whatever the other parts are.
use Rattle.std.specs.Prelude.{ℕ, ◌+◌, List, ◌++◌, ◌≡◌, length, take, drop, Result, Ok, Err}
use Rattle.wire.specs.Bytes.{wrote}
use Rattle.wire.specs.Reads.{answer}
use Rattle.refusal.specs.Numbers.{number_of}
use Rattle.refusal.specs.declared.Refusal.{Refusal}
use Rattle.icmsg.specs.Rules.{Answer as RingAnswer, refused as ringNo, accepted as ringYes, dropped as ringDropped, Outcome as RingOutcome, push_rule as ringPush}
use Rattle.endpoints.specs.declared.Endpoint.{Endpoint}
use Rattle.endpoints.specs.declared.Binding.{Binding}
use Rattle.icbmsg.specs.Outcome.{Outcome}
use Rattle.icbmsg.specs.Rings.{ring_of, all_or_nothing}
use Rattle.icbmsg.specs.End.{End}
use Rattle.icbmsg.specs.declared.Numbers.{Numbers}
use Rattle.checks.specs.Parts.{joined}
use Rattle.link.specs.Answers.{answered, writing, ring_answered, place_of}
use Rattle.link.specs.declared.Answer.{Answer}
use Rattle.link.specs.declared.PacketError.{PacketError}
use Rattle.link.specs.declared.Place.{Place}

-- by numbers and tables: the rule f, the bytes of the tables before and after
abbrev pub OnTables : (End → Outcome) → Numbers → List ℕ → Result Answer Refusal → List ℕ → Type 0
OnTables f n t r t' = (ps : List Endpoint) (bs : List Binding) → answered r (joined n t' ps bs) ≡ f (joined n t ps bs)

-- by the endpoints too, and lent transmit bytes, s before and s' after: a call that moves the own write index on to w
abbrev pub PushedOn : (End → Outcome) → Numbers → List ℕ → List Endpoint → Result Answer Refusal → ℕ → List ℕ → Type 0
PushedOn f n t ps r w t' = (bs : List Binding) → answered r (joined (writing n w) t' ps bs) ≡ f (joined n t ps bs)

abbrev pub WritesTx : (End → Outcome) → Numbers → List ℕ → List Endpoint → List ℕ → List ℕ → Type 0
WritesTx f n t ps s s' = (bs : List Binding) → s' ≡ wrote s (f (joined n t ps bs)).tx

-- and such a call that does not use the endpoints
abbrev pub PushedOnTables : (End → Outcome) → Numbers → List ℕ → Result Answer Refusal → ℕ → List ℕ → Type 0
PushedOnTables f n t r w t' = (ps : List Endpoint) → PushedOn f n t ps r w t'

abbrev pub WritesTxOnTables : (End → Outcome) → Numbers → List ℕ → List ℕ → List ℕ → Type 0
WritesTxOnTables f n t s s' = (ps : List Endpoint) → WritesTx f n t ps s s'

-- by the numbers alone, which are n' afterwards
abbrev pub OnNumbers : (End → Outcome) → Numbers → Result ℕ PacketError → Numbers → Type 0
OnNumbers f n r n' = (t : List ℕ) (ps : List Endpoint) (bs : List Binding) → ring_answered r (joined n' t ps bs) ≡ f (joined n t ps bs)

-- and lent bytes, written as the outcome's list w says
abbrev pub Writes : (Outcome → List (ℕ × ℕ)) → (End → Outcome) → Numbers → List ℕ → List ℕ → Type 0
Writes w f n s s' = (t : List ℕ) (ps : List Endpoint) (bs : List Binding) → s' ≡ wrote s (w (f (joined n t ps bs)))

-- a place, and the part of the lent bytes s that lies there
abbrev pub AtPlace : (End → Outcome) → Numbers → List ℕ → Result Place Refusal → Type 0
AtPlace f n t r = (ps : List Endpoint) (bs : List Binding) → place_of r (joined n t ps bs) ≡ f (joined n t ps bs)

abbrev pub PartOf : (End → Outcome) → Numbers → List ℕ → List ℕ → List ℕ → Type 0
PartOf f n t s r = (ps : List Endpoint) (bs : List Binding) → let o = f (joined n t ps bs) in r ≡ take o.size (drop o.begin s)

-- a part that begins at q' of a slice that begins at q
abbrev pub BeginsAt : (End → Outcome) → Numbers → List ℕ → ℕ → ℕ → Type 0
BeginsAt f n t q q' = (ps : List Endpoint) (bs : List Binding) → q' ≡ q + (f (joined n t ps bs)).begin

-- ---- a control message on the transmit ring

-- what the ring answered: the own write index behind the packet, or why it is not pushed
abbrev pub HandedAs : Result ℕ Refusal → RingAnswer → Type 0
HandedAs (Err x) (ringNo n) = number_of x ≡ n
HandedAs (Err x) (ringYes k i) = ⊥
HandedAs (Err x) (ringDropped n i) = number_of x ≡ 9
HandedAs (Ok w) (ringNo n) = ⊥
HandedAs (Ok w) (ringYes k i) = w ≡ i
HandedAs (Ok w) (ringDropped n i) = ⊥

-- the writes ws, then the push of c on the transmit ring in the bytes s, which are s' then: all or nothing
abbrev pub HandsOn : Result ℕ Refusal → Numbers → List ℕ → List (ℕ × ℕ) → List ℕ → List ℕ → Type 0
HandsOn (Err x) n s ws c s' = HandedAs (Err x) (ringPush s (ring_of n.alignment n.tx) n.write c).answer × (s' ≡ s)
HandsOn (Ok w) n s ws c s' =
    let p : RingOutcome = ringPush s (ring_of n.alignment n.tx) n.write c in
    HandedAs (Ok w) p.answer × (s' ≡ wrote s (ws ++ p.region))

-- what a rule gives, and its push, with transmit bytes s lent
abbrev pub behind_ring : End → List ℕ → Outcome → Outcome
behind_ring e s o = answer (all_or_nothing e (length s) o) s
