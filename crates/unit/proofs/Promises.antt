-- All that is promised of units, from the proofs.
use Rattle.region.proofs.PlainLayouts.{accepted_plain}
use Rattle.icmsg.proofs.Pulls.{receive_pulls}
use Rattle.icmsg.proofs.Indexes.{indexes_in_rule, used_bytes_stay_below}
use Rattle.icmsg.proofs.RoundTrip.{push_and_pull, push_keeps_what_is_unread}
use Rattle.icmsg.proofs.NeverJams.{never_jams}
use Rattle.icmsg.proofs.UnreadPackets.{unread_packets}
use Rattle.unit.specs.Promises.{Promises}
use Rattle.unit.proofs.Units.{refusals, open_exactly, open_stands, closed_six, writes_inside}
use Rattle.unit.proofs.TwoUnits.{two_units}

pub promises : Promises
promises =
    record {
      refusals = refusals;
      open_exactly = open_exactly;
      open_stands = open_stands;
      closed_six = closed_six;
      writes_inside = writes_inside;
      two_units = two_units;
      accepted_plain = accepted_plain;
      receive_pulls = receive_pulls;
      unread_packets = unread_packets;
      indexes_in_rule = indexes_in_rule;
      used_bytes = used_bytes_stay_below;
      round_trip = push_and_pull;
      unread_kept = push_keeps_what_is_unread;
      never_jams = never_jams;
    }
