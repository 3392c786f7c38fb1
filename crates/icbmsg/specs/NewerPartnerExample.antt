-- An example for D3: a list of calls at a follower with every kind of change.
use Rattle.std.specs.Prelude.{ℕ, List, [], ◌∷◌}
use Rattle.wire.specs.Bytes.{wrote}
use Rattle.icbmsg.specs.Calls.{start, pull, arrival, view, done, register, step}
use Rattle.icbmsg.specs.NewerPartner.{Item, keep, insert, Allowed}
use Rattle.icbmsg.specs.BenchCases.{initiator, follower, example, zeros}

-- the initiator's region with its binding `example` in block 0, with two bytes more behind it, with a data message of ten bytes in
-- block 2, and with its start packet
unfoldable pub binding : List ℕ
binding = wrote zeros (step initiator (register zeros example)).tx

unfoldable pub grown_binding : List ℕ
grown_binding = wrote binding ((512, 10) ∷ (524, 65) ∷ (525, 66) ∷ (2000, 1) ∷ [])

unfoldable pub message : List ℕ
message = wrote zeros ((704, 10) ∷ [])

-- other content, which an arrival does not read
unfoldable pub other_message : List ℕ
other_message = wrote message ((708, 7) ∷ (717, 9) ∷ (1, 3) ∷ [])

unfoldable pub started : List ℕ
started = wrote zeros (step initiator (start zeros)).tx

-- other reserved bytes, and content that no buffer takes
unfoldable pub other_started : List ℕ
other_started = wrote started ((38, 5) ∷ (39, 6) ∷ (40, 7) ∷ (900, 1) ∷ [])

unfoldable pub changed_calls : List Item
changed_calls =
    insert (arrival zeros (200 ∷ []))
    ∷ keep (arrival binding (2 ∷ 0 ∷ 0 ∷ [])) (arrival grown_binding (2 ∷ 0 ∷ 0 ∷ 9 ∷ 9 ∷ []))
    ∷ keep (register zeros example) (register zeros example)
    ∷ insert (arrival message (4 ∷ 0 ∷ 0 ∷ []))
    ∷ keep (arrival message (0 ∷ 0 ∷ 2 ∷ [])) (arrival other_message (0 ∷ 0 ∷ 2 ∷ []))
    ∷ keep (view zeros 2) (view grown_binding 2)
    ∷ keep (pull started []) (pull other_started [])
    ∷ keep (done zeros 2) (done zeros 2)
    ∷ []

-- J3: the hypothesis of D3 can be met
abbrev pub ChangesCanCome : Type 0
ChangesCanCome = Allowed follower changed_calls
