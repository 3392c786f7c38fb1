-- The rules of the calls on messages: reserve, room, send, drop, view, done, and the two questions (docs/RULES.md, B and V).
use Rattle.std.specs.Prelude.{ℕ, ◌+◌, ◌-◌, ◌*◌, leb}
use Rattle.wire.specs.Bytes.{little_endian, straight, writes}
use Rattle.icbmsg.specs.Regions.{block_count, block_size}
use Rattle.icbmsg.specs.Outcome.{nothing, a_run, control, Outcome, Rule, accepted, written, placed, without_place, check}
use Rattle.blocks.specs.Tables.{entry, starts, starts_data, freed, taken, blocks_for, free_run}
use Rattle.icbmsg.specs.Ends.{block_at, is_open, whole, found_or, with_sent, with_held}
use Rattle.icbmsg.specs.Rings.{all_or_nothing}
use Rattle.endpoints.specs.Endpoints.{bound_at, some_endpoint}
use Rattle.blocks.specs.declared.Use.TheVariants.{Reserved, SentData}
use Rattle.icbmsg.specs.End.{End}

-- B1: the blocks that K bytes need
abbrev pub need : End → ℕ → ℕ
need e k = blocks_for (block_size e.tx) k

-- B4, checks 23, 24: f is what is done with the lowest start that has free blocks enough for K bytes
abbrev pub reserving : End → ℕ → (ℕ → Outcome) → Outcome
reserving e k f = check (leb (need e k) (block_count e.tx)) 23 e (found_or 24 e f (free_run (block_count e.tx) e.sent (need e k)))

-- B3, B9: the run is taken with neither address nor K; start and count are answered
abbrev pub reservation : End → ℕ → ℕ → Outcome
reservation e k s = accepted (with_sent e (taken e.sent Reserved s (need e k) 0 0)) (a_run s (need e k))

unfoldable pub reserve_of : End → ℕ → Outcome
reserve_of e k = check (is_open e) 6 e (reserving e k (reservation e k))

-- V1: from behind the header to the end of the last block; n bytes are lent
unfoldable pub room_of : End → ℕ → ℕ → Outcome
room_of e n s =
    check (whole e e.tx n) 6 e
    (check (starts Reserved (block_count e.tx) e.sent s) 25 e
    (placed e (block_at e.tx s + 4) ((entry e.sent s).count * block_size e.tx - 4)))

-- B5, checks 25, 15, 23: the header is written, what K does not need is freed, and 00 address start is for the partner: so much before the
-- ring
unfoldable pub send_of : End → ℕ → ℕ → ℕ → ℕ → Outcome
send_of e n s a k =
    check (whole e e.tx n) 6 e
    (check (starts Reserved (block_count e.tx) e.sent s) 25 e
    (check (some_endpoint (bound_at a) e.endpoints) 15 e
    (check (leb (k + 4) ((entry e.sent s).count * block_size e.tx)) 23 e
    (written (with_sent e (taken (freed e.sent s (entry e.sent s).count) SentData s (blocks_for (block_size e.tx) k) a k))
    (control 0 a s) (writes (straight (block_at e.tx s)) (little_endian 4 k))))))

abbrev pub send_rule : End → ℕ → ℕ → ℕ → ℕ → Rule
send_rule e n s a k = all_or_nothing e n (send_of e n s a k)

-- B6: what is reserved is freed
unfoldable pub drop_of : End → ℕ → Outcome
drop_of e s =
    check (is_open e) 6 e
    (check (starts Reserved (block_count e.tx) e.sent s) 25 e
    (accepted (with_sent e (freed e.sent s (entry e.sent s).count)) nothing))

-- V2: K bytes behind the header, by the K in the entry
unfoldable pub view_of : End → ℕ → ℕ → Outcome
view_of e n s =
    check (whole e e.rx n) 6 e
    (check (starts_data (block_count e.rx) (block_size e.rx) e.held s) 25 e
    (placed e (block_at e.rx s + 4) (entry e.held s).length))

-- V3: received data is freed, and 01 00 start is for the partner: so much before the ring; n bytes are lent of the transmit region
unfoldable pub done_of : End → ℕ → ℕ → Outcome
done_of e n s =
    check (whole e e.tx n) 6 e
    (check (starts_data (block_count e.rx) (block_size e.rx) e.held s) 25 e
    (accepted (with_held e (freed e.held s (entry e.held s).count)) (control 1 0 s)))

abbrev pub done_rule : End → ℕ → ℕ → Rule
done_rule e n s = all_or_nothing e n (done_of e n s)

-- V4: the number alone, for a slice of n bytes
unfoldable pub room_question : End → ℕ → ℕ → Outcome
room_question e s n = without_place (room_of e n s)

unfoldable pub view_question : End → ℕ → ℕ → Outcome
view_question e s n = without_place (view_of e n s)
