-- The starred bench cases (docs/RULES.md, T1 to T10), and the two ends that their calls are made on.
use Rattle.std.specs.Prelude.{ℕ, ◌≡◌, List, [], ◌∷◌, ◌++◌, map, replicate}
use Rattle.region.specs.Layout.{Outcome as Layout, layout}
use Rattle.icmsg.specs.Ring.{packet}
use Rattle.icbmsg.specs.Outcome.{Given, nothing, a_run, Outcome}
use Rattle.icbmsg.specs.Opening.{opening}
use Rattle.icbmsg.specs.Calls.{reserve, register, step}
use Rattle.icbmsg.specs.End.{End}

-- the end that transmits in the region of 16 blocks; with its receive region below, it is an initiator
abbrev pub initiator : End
initiator = (opening (record { alignment = 32; tx = record { begin = 0x20070000; end = 0x20070800; block_count = 16 }; rx = record { begin = 0x20060000; end = 0x20060800; block_count = 32 } })).next

-- its partner
abbrev pub follower : End
follower = (opening (record { alignment = 32; tx = record { begin = 0x20060000; end = 0x20060800; block_count = 32 }; rx = record { begin = 0x20070000; end = 0x20070800; block_count = 16 } })).next

-- the name `example`, and a region of zeros
abbrev pub example : List ℕ
example = 101 ∷ 120 ∷ 97 ∷ 109 ∷ 112 ∷ 108 ∷ 101 ∷ []

abbrev pub zeros : List ℕ
zeros = replicate 2048 0

-- what a case states: of a layout the number, the block size and where the blocks begin; of a call the number and what comes with it; of a
-- binding the bytes that are written, its message, its packet and the write index; of a packet the bytes
pub data Stated : Type 0 where
  a_layout : (number block_size blocks_begin : ℕ) → Stated
  an_answer : (number : ℕ) → Given → Stated
  some_bytes : List ℕ → Stated

abbrev pub of_layout : Layout → Stated
of_layout y = a_layout y.number y.block_size y.blocks_begin

abbrev pub of_call : Outcome → Stated
of_call o = an_answer o.number o.given

abbrev pub of_binding : Outcome → Stated
of_binding o = some_bytes (map (λ w. w.1) o.tx)

-- each case, and what it is said to be
abbrev pub starred_cases : List (Stated × Stated)
starred_cases =
    (of_layout (layout 0x20070000 0x20070800 16 32 32), a_layout 0 96 0x20070200)
    ∷ (of_layout (layout 0x20078000 0x20078800 32 16 32), a_layout 0 32 0x20078400)
    ∷ (of_layout (layout 0x20070000 0x20070800 16 32 4), a_layout 0 100 0x200701C0)
    ∷ (of_layout (layout 0x20070010 0x200707F0 16 32 32), a_layout 0 96 0x200701E0)
    ∷ (of_layout (layout 0x1000 0x102C 1 1 4), a_layout 0 4 0x1028)
    ∷ (of_layout (layout 0x1000 0x1028 1 1 4), a_layout 4 0 0)
    ∷ (of_call (step initiator (reserve 92)), an_answer 0 (a_run 0 1))
    ∷ (of_call (step initiator (reserve 93)), an_answer 0 (a_run 0 2))
    ∷ (of_call (step initiator (reserve 0)), an_answer 0 (a_run 0 1))
    ∷ (of_call (step initiator (reserve 1532)), an_answer 0 (a_run 0 16))
    ∷ (of_call (step initiator (reserve 1533)), an_answer 23 nothing)
    ∷ (of_binding (step initiator (register zeros example)), some_bytes ((0x08 ∷ 0 ∷ 0 ∷ 0 ∷ example ++ (0 ∷ [])) ++ packet (2 ∷ 0 ∷ 0 ∷ []) ++ (0x08 ∷ 0 ∷ 0 ∷ 0 ∷ [])))
    ∷ (some_bytes (packet (0 ∷ 2 ∷ 5 ∷ [])), some_bytes (0 ∷ 3 ∷ 0 ∷ 0 ∷ 0 ∷ 2 ∷ 5 ∷ 0 ∷ []))
    ∷ []

-- THE STATEMENT
abbrev pub StarredCases : Type 0
StarredCases = map (λ c. c.0) starred_cases ≡ map (λ c. c.1) starred_cases
