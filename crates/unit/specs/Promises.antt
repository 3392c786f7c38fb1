-- What is promised of units, in the order of docs/PROMISES.md. Opening a unit ensures all of it, so that none can fall away unseen. The laws of the
-- ring are those that an end's promises cite.
use Rattle.region.specs.Laws.{AcceptedPlain}
use Rattle.icmsg.specs.Laws as Ring
use Rattle.icmsg.specs.Unread.{UnreadPackets}
use Rattle.unit.specs.Laws.{Refusals, OpenExactly, OpenStands, ClosedSix, WritesInside}
use Rattle.unit.specs.TwoUnits.{TwoUnits}

pub record Promises : Type 0 where
  pub refusals : Refusals
  pub open_exactly : OpenExactly
  pub open_stands : OpenStands
  pub closed_six : ClosedSix
  pub writes_inside : WritesInside
  pub two_units : TwoUnits
  -- the region and the ring
  pub accepted_plain : AcceptedPlain
  pub receive_pulls : Ring.ReceivePulls
  pub unread_packets : UnreadPackets
  pub indexes_in_rule : Ring.IndexesInRule
  pub used_bytes : Ring.UsedBytes
  pub round_trip : Ring.RoundTrip
  pub unread_kept : Ring.UnreadKept
  pub never_jams : Ring.NeverJams
