-- The starred bench cases, computed.
use mathlib.Core.Path.{refl}
use Rattle.wire.specs.Bytes.{little_endian, from_little_endian, writes, same}
use Rattle.region.specs.Layout.{is_alignment, is_block_count, are_bounds, round_down, round_up, ring_minimum, aligned_size, block_size_of, fitted, layout}
use Rattle.icmsg.specs.Ring.{in_rule, is_sound, used, packet_length, packet, behind}
use Rattle.icmsg.specs.Rules.{push_writes, push_tree}
use Rattle.blocks.specs.Tables.{all_free, fill, lowest, blocks_for, free_run}
use Rattle.endpoints.specs.Endpoints.{unused_from, good_name}
use Rattle.icbmsg.specs.Ends.{is_open, changed}
use Rattle.icbmsg.specs.Opening.{opening}
use Rattle.icbmsg.specs.Rings.{all_or_nothing}
use Rattle.icbmsg.specs.Messages.{reserve_of}
use Rattle.icbmsg.specs.Registering.{initiates, register_of}
use Rattle.icbmsg.specs.Calls.{rule, read_from, step}
use Rattle.icbmsg.specs.BenchCases.{StarredCases}

pub starred_cases : StarredCases
unfolding little_endian from_little_endian writes same is_alignment is_block_count are_bounds round_down round_up ring_minimum aligned_size block_size_of fitted layout in_rule is_sound used packet_length packet behind push_writes push_tree all_free fill lowest blocks_for free_run unused_from good_name is_open changed opening reserve_of initiates register_of all_or_nothing rule read_from step
starred_cases = refl
