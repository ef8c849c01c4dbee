-- How clean traces are, by when they were sent: what the steps of the machine keep.
use Rattle.std.specs.Prelude.{◌≡◌, ◌≤◌, ◌+◌, ◌*◌, ℕ, suc, true, Some, slice_get}
use Rattle.gptp_lists.specs.Members.{In}
use Rattle.gptp_graph.specs.Snapshot.{clocks, Joins}
use Rattle.gptp_bmca_machine.specs.Frame.{Announce, Spelling, AnnounceFrame, Lane}
use Rattle.gptp_bmca_machine.specs.Station.{Reception, Station, MachineState, HoldsAt}
use Rattle.gptp_bmca_machine.specs.Clean.{Good, Came}
use Rattle.gptp_bmca_machine.specs.Facts.{NetworkSetting, turn, Late}

-- What is due once what others sent is gone was sent by a live system. An Announce that is due after c turns and an
-- announce interval was sent after c turns, and so was one on a link of the snapshot that is due after c turns and a
-- delay: its trace is clean by c + 1 members or wholly.
pub record LaneIsClean (says : Spelling) (k : NetworkSetting) (l : Lane) : Type 0 where
  pub sender : (f : AnnounceFrame) → In f l.frames → k.gone ≤ f.due → In l.from.clock (clocks k.graph)
  pub clean : (f : AnnounceFrame) (a : Announce) (c : ℕ) → In f l.frames → says f.octets a → Joins k.graph l.from l.to
      → Late k c f.due → Good k.graph (suc c) l.from a
  pub anywhere : (f : AnnounceFrame) (a : Announce) (c : ℕ) → In f l.frames → says f.octets a
      → k.start + c * turn k + k.interval ≤ f.due → Good k.graph (suc c) l.from a

-- each Announce that a live system received after c turns and a delay came over the port's link, and is clean by c + 1
-- members or wholly
abbrev pub StationIsClean : NetworkSetting → Station → Type 0
StationIsClean k s = (i : ℕ) (r : Reception) (c : ℕ) → HoldsAt s i r → Late k c r.at
    → Came k.graph (suc c) s.clock (suc i) r

-- each lane and each live system is so
pub record TracesAreClean (says : Spelling) (k : NetworkSetting) (w : MachineState) : Type 0 where
  pub lanes : (j : ℕ) (l : Lane) → slice_get w.lanes j ≡ Some l → LaneIsClean says k l
  pub stations : (i : ℕ) (s : Station) → slice_get w.stations i ≡ Some s → s.live ≡ true → StationIsClean k s
