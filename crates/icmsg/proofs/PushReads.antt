-- Push asks for the partner's index, and for nothing else.
use Prim.Native.Nat.{ℕ, ◌+◌, ◌-◌}
use mathlib.Core.Bool.{Bool, true, false}
use mathlib.Core.Path.{◌≡◌, refl}
use mathlib.Core.List.{List, [], ◌∷◌}
use lib.Dec.{leb}
use lib.ListN.{length}
use Rattle.wire.specs.Choice.{pick, check, passed}
use Rattle.wire.specs.Bytes.{from_little_endian, straight, bytes}
use Rattle.wire.proofs.Trees.{answer-unless, positions_read-unless}
use Rattle.icmsg.specs.Ring.{read_index_at, index_at, in_rule, is_sound, used, packet_length}
use Rattle.icmsg.specs.Rules.{Outcome, refusal, answer_number, room_number, fit_number, push_number, pushed, push_rule, push_tree}
use Rattle.icmsg.specs.Reading.{past, partner_index, PushReads}
use Rattle.icmsg.specs.declared.Ring.{Ring}

-- its checks, each passed or not
by_checks : (x y : Bool) (k : ℕ) (o : Outcome) → pick x (pick y (passed k o refusal) (refusal 11)) (refusal 6) ≡ passed (check x 6 (check y 11 k)) o refusal
by_checks true true k o = refl
by_checks true false k o = refl
by_checks false y k o = refl

-- past 11, with the partner's index in rule or not, and room or not
asked : (x y i l : Bool) (P : List ℕ) (g : Ring) (w : ℕ) (c : List ℕ) →
    pick x (pick y P []) []
    ≡ past (6 ∷ 11 ∷ []) (answer_number (pick x (pick y (passed (check i 7 (check l 10 0)) (pushed [] g w c) refusal) (refusal 11)) (refusal 6)).answer) P
asked true true true true P g w c = refl
asked true true true false P g w c = refl
asked true true false l P g w c = refl
asked true false i l P g w c = refl
asked false y i l P g w c = refl

pub push_reads_the_index : PushReads
unfolding push_tree push_rule push_number fit_number index_at bytes
push_reads_the_index =
    record {
      answers = λ g w c s.
          rw (answer-unless, answer-unless)
          (by_checks (is_sound (length s) g w) (leb (length c) 65535) (room_number g.data_length (from_little_endian (bytes s (straight (read_index_at g)) 4)) w (length c)) (pushed [] g w c));
      asks = λ n g w c s.
          let r : ℕ = from_little_endian (bytes s (straight (read_index_at g)) 4) in
          rw (positions_read-unless, positions_read-unless, answer-unless, answer-unless)
          (asked (is_sound n g w) (leb (length c) 65535) (in_rule g.data_length r) (leb (packet_length (length c) + used g.data_length r w) (g.data_length - 1)) (partner_index g) g w c);
    }
