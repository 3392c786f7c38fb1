-- The example's changes are allowed, computed.
use Prim.Native.Nat.{ℕ, zero, suc, ◌+◌, ◌<◌}
use mathlib.Core.Path.{◌≡◌, refl}
use mathlib.Core.List.{[], ◌∷◌}
use native.Mathlib.Omega.{arith}
use lib.Dec.{lit<, lit≤}
use lib.ListN.{get_or}
use Rattle.wire.specs.Bytes.{little_endian, from_little_endian, bytes, writes, wrote, same}
use Rattle.region.specs.Layout.{is_alignment, is_block_count, are_bounds, round_down, round_up, ring_minimum, aligned_size, block_size_of, fitted, layout}
use Rattle.icmsg.specs.Ring.{index_at, in_rule, is_sound, used, packet_length, packet, content_length, behind}
use Rattle.icmsg.specs.Rules.{fit_number, push_number, push_writes, push_tree as ringPush, start_rule as ringStart, look_at, look_rule, read_to, take_rule, pull_rule as ringPull}
use Rattle.blocks.specs.Tables.{all_free, fill, lowest, blocks_for, free_run}
use Rattle.endpoints.specs.Endpoints.{unused_from, good_name}
use Rattle.icbmsg.specs.Ends.{is_open, changed}
use Rattle.icbmsg.specs.Opening.{opening}
use Rattle.icbmsg.specs.Rings.{start_of, pull_rule, all_or_nothing}
use Rattle.icbmsg.specs.Messages.{view_of, done_of}
use Rattle.icbmsg.specs.Registering.{initiates, register_of}
use Rattle.icbmsg.specs.Arrivals.{bound_named, bound_sized, bound_rule, arrival_rule, data_rule}
use Rattle.icbmsg.specs.Calls.{rule, read_from, step}
use Rattle.icbmsg.specs.Reading.{reading, content_at}
use Rattle.icbmsg.specs.NewerPartner.{Grown, unchanged, longer, grown, pulls, arrives, views, both, unknown_kind}
use Rattle.icbmsg.specs.BenchCases.{follower}
use Rattle.icbmsg.specs.NewerPartnerExample.{binding, grown_binding, message, other_message, started, other_started, changed_calls, ChangesCanCome}

-- the binding's own bytes stay
own-bytes : (i : ℕ) → i < 8 → get_or grown_binding (content_at follower 0 + i) 0 ≡ get_or binding (content_at follower 0 + i) 0
unfolding binding grown_binding wrote writes little_endian from_little_endian same is_alignment is_block_count are_bounds round_down round_up ring_minimum aligned_size block_size_of fitted layout in_rule is_sound used packet_length packet behind push_writes ringPush blocks_for all_free fill lowest free_run unused_from good_name is_open changed opening initiates register_of all_or_nothing rule read_from step
own-bytes zero h = refl
own-bytes (suc zero) h = refl
own-bytes (suc (suc zero)) h = refl
own-bytes (suc (suc (suc zero))) h = refl
own-bytes (suc (suc (suc (suc zero)))) h = refl
own-bytes (suc (suc (suc (suc (suc zero))))) h = refl
own-bytes (suc (suc (suc (suc (suc (suc zero)))))) h = refl
own-bytes (suc (suc (suc (suc (suc (suc (suc zero))))))) h = refl
own-bytes (suc (suc (suc (suc (suc (suc (suc (suc i)))))))) h = absurd (omega arith)

really_grown : Grown follower 0 binding grown_binding
unfolding binding grown_binding wrote writes little_endian from_little_endian same is_alignment is_block_count are_bounds round_down round_up ring_minimum aligned_size block_size_of fitted layout in_rule is_sound used packet_length packet behind push_writes ringPush blocks_for all_free fill lowest free_run unused_from good_name is_open changed opening initiates register_of all_or_nothing rule read_from step
really_grown =
    record {
      lent = refl;
      lent' = refl;
      range = lit< tt;
      fitting = lit≤ tt;
      zero_at = 7;
      inside = lit< tt;
      early = lit< tt;
      ended = refl;
      larger = lit≤ tt;
      blocks = refl;
      stays = own-bytes;
    }

pub changes_can_come : ChangesCanCome
unfolding changed_calls binding grown_binding message other_message started other_started wrote writes little_endian from_little_endian bytes same is_alignment is_block_count are_bounds round_down round_up ring_minimum aligned_size block_size_of fitted layout index_at in_rule is_sound used packet_length packet content_length behind fit_number push_number push_writes ringPush ringStart look_at look_rule read_to take_rule ringPull blocks_for all_free fill lowest free_run unused_from good_name is_open changed opening start_of pull_rule all_or_nothing view_of done_of initiates register_of bound_named bound_sized bound_rule data_rule arrival_rule rule read_from step reading
changes_can_come = (
  unknown_kind 200 (lit< tt) (λ _. refl),
  (
    both (grown 0 0 refl really_grown) (longer (9 ∷ 9 ∷ []) (lit≤ tt)),
    (
      unchanged,
      (
        unknown_kind 4 (lit< tt) (λ _. refl),
        (
          arrives {r = message} {r' = other_message} {m = 0 ∷ 0 ∷ 2 ∷ []} refl (refl, (refl, (refl, (refl, tt)))),
          (
            views refl,
            (
              pulls {r = started} {r' = other_started} {b = []} refl (refl, (refl, (refl, (refl, (refl, (refl, tt)))))),
              (unchanged, tt),
            ),
          ),
        ),
      ),
    ),
  ),
)
