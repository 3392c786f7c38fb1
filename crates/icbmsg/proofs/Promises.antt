-- Every promise, proved.
use Rattle.region.proofs.AcceptedLayouts.{accepted_layouts_lie_inside}
use Rattle.icmsg.proofs.Indexes.{indexes_in_rule, refusals as ring_refusals, used_bytes_stay_below}
use Rattle.icmsg.proofs.RoundTrip.{push_and_pull, push_keeps_what_is_unread}
use Rattle.icmsg.proofs.NeverJams.{never_jams}
use Rattle.icmsg.proofs.WritesInside.{writes_inside}
use Rattle.icmsg.proofs.PullReads.{pull_reads_what_is_listed}
use Rattle.icmsg.proofs.PushReads.{push_reads_the_index}
use Rattle.icbmsg.specs.Promises.{Promises}
use Rattle.icbmsg.proofs.RulesRead.{rules_read}
use Rattle.icbmsg.proofs.Separate.{separate, disjoint, covered}
use Rattle.icbmsg.proofs.RunsStay.{runs_stay_until_touched, send_trims}
use Rattle.icbmsg.proofs.Places.{parts_inside, parts_apart}
use Rattle.icbmsg.proofs.Writes.{writes_stay_inside}
use Rattle.icbmsg.proofs.Refusals.{refusals, numbers_stay, open_stays, open_after}
use Rattle.icbmsg.proofs.ClosedEnds.{closed_six}
use Rattle.icbmsg.proofs.AllOrNothing.{all_or_nothing_lem}
use Rattle.icbmsg.proofs.RingLast.{ring_last}
use Rattle.icbmsg.proofs.RingAfter.{ring_after}
use Rattle.icbmsg.proofs.ReadApart.{read_apart}
use Rattle.icbmsg.proofs.Ledger.{by_history}
use Rattle.icbmsg.proofs.NothingAdded.{nothing_added}
use Rattle.icbmsg.proofs.NoRoom.{need_least, reserve_says, no_room_exactly}
use Rattle.icbmsg.proofs.Names.{names_kept}
use Rattle.icbmsg.proofs.Completion.{binding_completes, data_reaches}
use Rattle.icbmsg.proofs.Addresses.{address_lowest}
use Rattle.icbmsg.proofs.NewerPartner.{newer_partner}
use Rattle.icbmsg.proofs.NewerPartnerExample.{changes_can_come}
use Rattle.icbmsg.proofs.BenchCases.{starred_cases}

pub promises : Promises
promises =
    record {
      parts_inside = parts_inside;
      parts_apart = parts_apart;
      separated = separate;
      runs_disjoint = disjoint;
      blocks_covered = covered;
      runs_stay = runs_stay_until_touched;
      send_trims = send_trims;
      writes_inside = writes_stay_inside;
      refusals = refusals;
      ring_refusals = ring_refusals;
      closed_six = closed_six;
      open_exactly = open_after;
      open_stays = open_stays;
      numbers_stay = numbers_stay;
      accepted_layouts = accepted_layouts_lie_inside;
      indexes_in_rule = indexes_in_rule;
      used_bytes = used_bytes_stay_below;
      round_trip = push_and_pull;
      unread_kept = push_keeps_what_is_unread;
      never_jams = never_jams;
      ring_writes = writes_inside;
      all_or_nothing_lem = all_or_nothing_lem;
      ring_last = ring_last;
      ring_after = ring_after;
      by_history = by_history;
      nothing_added = nothing_added;
      need_least = need_least;
      reserve_says = reserve_says;
      no_room = no_room_exactly;
      names_kept = names_kept;
      address_lowest = address_lowest;
      binding_completes = binding_completes;
      data_reaches = data_reaches;
      pull_reads = pull_reads_what_is_listed;
      push_reads = push_reads_the_index;
      read_apart = read_apart;
      rules_read = rules_read;
      newer_partner = newer_partner;
      changes_can_come = changes_can_come;
      starred_cases = starred_cases;
    }
