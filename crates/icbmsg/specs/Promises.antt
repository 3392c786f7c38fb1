-- The promises, in the order of docs/PROMISES.md: each is a statement about the rules, for every opening and every list of calls. Opening an end
-- ensures them all (crates/link/src/openings.rt), so that none can fall away unseen.
use Rattle.region.specs.Laws.{AcceptedLayouts}
use Rattle.icmsg.specs.Laws as Ring
use Rattle.icmsg.specs.Reading.{PullReads, PushReads}
use Rattle.icbmsg.specs.Reading.{RulesRead}
use Rattle.icbmsg.specs.Ledger.{ByHistory}
use Rattle.icbmsg.specs.Theorems.{Refusals, NumbersStay, OpenStays, ClosedSix, OpenExactly, Separated, RunsDisjoint, BlocksCovered, RunsStay, SendTrims, NothingAdded, AddressLowest, NeedLeast, ReserveSays, NoRoom}
use Rattle.icbmsg.specs.Places.{PartsInside, PartsApart, WritesInside}
use Rattle.icbmsg.specs.Pushing.{AllOrNothing, RingLast, RingAfter, ReadApart}
use Rattle.icbmsg.specs.Names.{NamesKept}
use Rattle.icbmsg.specs.Completion.{BindingCompletes, DataReaches}
use Rattle.icbmsg.specs.NewerPartner.{NewerPartner}
use Rattle.icbmsg.specs.NewerPartnerExample.{ChangesCanCome}
use Rattle.icbmsg.specs.BenchCases.{StarredCases}

pub record Promises : Type 0 where
  -- D1
  pub parts_inside : PartsInside
  pub parts_apart : PartsApart
  pub separated : Separated
  pub runs_disjoint : RunsDisjoint
  pub blocks_covered : BlocksCovered
  pub runs_stay : RunsStay
  pub send_trims : SendTrims
  pub writes_inside : WritesInside
  pub refusals : Refusals
  pub ring_refusals : Ring.Refusals
  pub closed_six : ClosedSix
  pub open_exactly : OpenExactly
  pub open_stays : OpenStays
  pub numbers_stay : NumbersStay
  -- D2
  pub accepted_layouts : AcceptedLayouts
  pub indexes_in_rule : Ring.IndexesInRule
  pub used_bytes : Ring.UsedBytes
  pub round_trip : Ring.RoundTrip
  pub unread_kept : Ring.UnreadKept
  pub never_jams : Ring.NeverJams
  pub ring_writes : Ring.WritesInside
  pub all_or_nothing_lem : AllOrNothing
  pub ring_last : RingLast
  pub ring_after : RingAfter
  pub by_history : ByHistory
  pub nothing_added : NothingAdded
  pub need_least : NeedLeast
  pub reserve_says : ReserveSays
  pub no_room : NoRoom
  pub names_kept : NamesKept
  pub address_lowest : AddressLowest
  pub binding_completes : BindingCompletes
  pub data_reaches : DataReaches
  -- D3
  pub pull_reads : PullReads
  pub push_reads : PushReads
  pub read_apart : ReadApart
  pub rules_read : RulesRead
  pub newer_partner : NewerPartner
  pub changes_can_come : ChangesCanCome
  -- T
  pub starred_cases : StarredCases
