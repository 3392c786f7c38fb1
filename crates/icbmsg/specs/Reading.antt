-- The bytes that each call reads of the region that it is lent (docs/RULES.md, N6), by what the call answers.
use Rattle.std.specs.Prelude.{ℕ, zero, suc, ◌+◌, min, ◌≡◌, List, [], ◌∷◌, ◌++◌, eqb, length, get_or}
use Rattle.wire.specs.Choice.{pick}
use Rattle.wire.specs.Reads.{positions_read}
use Rattle.icmsg.specs.Reading.{is_one_of, past, partner_index, pull_positions}
use Rattle.icbmsg.specs.Ends.{block_at}
use Rattle.icbmsg.specs.Outcome.{Given, nothing, a_length, dropped, a_run, control, delivery, Outcome}
use Rattle.icbmsg.specs.Rings.{transmit_ring, receive_ring}
use Rattle.icbmsg.specs.Arrivals.{decode, header_at, size_at}
use Rattle.icbmsg.specs.declared.Control.{Control}
use Rattle.icbmsg.specs.declared.Control.TheVariants.{TooShort, UnknownKind, DataSent, DataReleased, BindingSent, BindingReleased}
use Rattle.icbmsg.specs.Calls.{Call, start, push, pull, reserve, room, send, drop, arrival, view, done, register, ask_room, ask_view, rule, read_from, step}
use Rattle.icbmsg.specs.End.{End}

-- K of the message in receive block b, and where its content begins
abbrev pub size_in : End → ℕ → List ℕ → ℕ
size_in e b r = size_at e.rx b r

abbrev pub content_at : End → ℕ → ℕ
content_at e b = block_at e.rx b + 4

-- at most n places from p on, as far as the first zero byte
abbrev pub zero_ended : ℕ → ℕ → List ℕ → List ℕ
zero_ended zero p r = []
zero_ended (suc n) p r = p ∷ pick (eqb (get_or r p 0) 0) [] (zero_ended n (suc p) r)

-- an arrival of kind 0 or 2, past 16 the four header bytes, and of kind 2, past 18, the name as far as its first zero
abbrev pub arrival_reads : End → List ℕ → ℕ → Control → List ℕ
arrival_reads e r n UnknownKind = []
arrival_reads e r n TooShort = []
arrival_reads e r n (DataSent a b) = past (6 ∷ 14 ∷ 15 ∷ 16 ∷ []) n (header_at e.rx b)
arrival_reads e r n (DataReleased b) = []
arrival_reads e r n (BindingSent a b) =
    past (6 ∷ 19 ∷ 14 ∷ 16 ∷ []) n (header_at e.rx b)
    ++ past (6 ∷ 19 ∷ 14 ∷ 16 ∷ 17 ∷ 18 ∷ []) n (zero_ended (min (size_in e b r) 32) (content_at e b) r)
arrival_reads e r n (BindingReleased a b) = []

-- the partner's index ps, where a rule's control message is pushed: looked at last, so where the ring refuses and where the call is accepted with
-- a control message
abbrev pub push_positions : List ℕ → ℕ → Given → List ℕ
push_positions ps n nothing = pick (is_one_of n (7 ∷ 10 ∷ [])) ps []
push_positions ps n (a_length k) = []
push_positions ps n (dropped m) = []
push_positions ps n (a_run s m) = []
push_positions ps n (control k a b) = ps
push_positions ps n (delivery a b k) = []

abbrev pub of_push : End → Outcome → List ℕ
of_push e o = push_positions (partner_index (transmit_ring e)) o.number o.given

-- Of the transmit region that is the partner's index and nothing else.
unfoldable pub reading : End → Call → List ℕ
reading e (start tx) = []
reading e (push tx c) = past (6 ∷ 11 ∷ []) (step e (push tx c)).number (partner_index (transmit_ring e))
reading e (pull r b) = pull_positions (receive_ring e) e.read (length b) r (step e (pull r b)).number
reading e (reserve k) = []
reading e (room tx s) = []
reading e (send tx s a k) = of_push e (step e (send tx s a k))
reading e (drop s) = []
reading e (arrival r m) = arrival_reads e r (step e (arrival r m)).number (decode m)
reading e (view rx s) = []
reading e (done tx s) = of_push e (step e (done tx s))
reading e (register tx n) = of_push e (step e (register tx n))
reading e (ask_room s n) = []
reading e (ask_view s n) = []

-- THE STATEMENT: every rule asks for just these, in this order
abbrev pub RulesRead : Type 0
RulesRead = (e : End) (c : Call) → positions_read (rule e c) (read_from c) ≡ reading e c
