-- All that is held and in flight on any lane is sound: so it is in a network at rest, and stays where the network gains
-- systems and links.
use Rattle.std.specs.Prelude.{◌≡◌, ◌⊎◌, ℕ, suc, true, Some, slice_get}
use Rattle.gptp_lists.specs.Members.{In}
use Rattle.gptp_graph.specs.Snapshot.{PortIdentity, Snapshot, clocks}
use Rattle.gptp_bmca_machine.specs.Frame.{Announce, Spelling, AnnounceFrame, Lane}
use Rattle.gptp_bmca_machine.specs.Station.{Reception, Station, MachineState, HoldsAt}
use Rattle.gptp_bmca_machine.specs.Clean.{CameSound, IsWorse, Whole}
use Rattle.gptp_bmca_machine.specs.Facts.{FollowsItself, FollowsPort, station_system}

-- An Announce of this port is sound: it comes from a live system, and its root is worse than the best of that, or it is
-- wholly clean.
pub record IsSoundSent (g : Snapshot) (from : PortIdentity) (a : Announce) : Type 0 where
  pub sender : In from.clock (clocks g)
  pub source : a.source ≡ from
  pub sound : IsWorse g from.clock a ⊎ Whole g from.clock a

-- each Announce in flight on the lane is a sound one of the port from which the lane leads
abbrev pub LaneIsSound : Spelling → Snapshot → Lane → Type 0
LaneIsSound says g l = (f : AnnounceFrame) (a : Announce) → In f l.frames → says f.octets a → IsSoundSent g l.from a

-- what the system received came over its link, and is sound
abbrev pub StationIsSound : Snapshot → Station → Type 0
StationIsSound g s = (place : ℕ) (r : Reception) → HoldsAt s place r → CameSound g s.clock (suc place) r

-- Each lane is so, and each live system. Shown of worlds by stays_sound and rest_is_sound; that they settle by it shows
-- news_worlds_settle.
pub record IsSoundEverywhere (says : Spelling) (g : Snapshot) (w : MachineState) : Type 0 where
  pub lanes : (j : ℕ) (l : Lane) → slice_get w.lanes j ≡ Some l → LaneIsSound says g l
  pub stations : (i : ℕ) (s : Station) → slice_get w.stations i ≡ Some s → s.live ≡ true → StationIsSound g s

-- What is used of a system that says something: the snapshot has it, it follows itself or a port, and what it received
-- doesn't name it.
pub record MaySay (g : Snapshot) (s : Station) : Type 0 where
  pub known : In (station_system s) g.systems
  pub follows : FollowsItself s ⊎ FollowsPort s
  pub no_loop : (i : ℕ) (r : Reception) → HoldsAt s i r → In s.clock r.said.path → ⊥
