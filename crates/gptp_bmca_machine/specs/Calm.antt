-- What is known of each state of a network whose last change is past, of one item each. This is what a world has to
-- show of itself, and gptp_invariants shows it by worlds_are_calm; the laws named here are those on one item. Besides,
-- the laws of settling have one premise, that nothing lapses (`Lapsing`).
use Rattle.std.specs.Prelude.{◌≡◌, ◌≢◌, ◌<◌, ◌≤◌, ◌+◌, ℕ, suc, true, Some, slice_get}
use Rattle.gptp_lists.specs.Members.{In}
use Rattle.gptp_graph.specs.Snapshot.{System, PortIdentity, port_of, Joins, IsLinked}
use Rattle.gptp_bmca_machine.specs.Frame.{AnnounceFrame, Lane}
use Rattle.gptp_bmca_machine.specs.Station.{Reception, Disabled, Mine, Received, Port, Station, MachineState}
use Rattle.gptp_bmca_machine.specs.Facts.{station_system, StationFacts}
use Rattle.gptp_bmca_machine.specs.AtRest.{StationIsAtRest}
use Rattle.gptp_bmca_machine.specs.Network.{Network, network_setting}

-- What is known of port p of a live system. Its interval is the one it has in the network, and its timer is due within
-- that while it is master. Where a link is at it it isn't disabled once it is capable; where none is, there is a time
-- from which it holds nothing, and one from which it is disabled. What came over its link and names the other port's
-- interval stays for longer than that and the largest delay.
pub record IsCalmPort (n : Network) (now : ℕ) (p : PortIdentity) (q : Port) : Type 0 where
  -- the logarithm and the interval are of the setup, which never changes
  pub log : q.log ≡ n.log_of p
  pub interval : q.interval ≡ n.interval_of p
  -- Nothing due earlier is left, by ports_are_due; and steps keep it, by ports_stay_selected.
  pub timer : (root steps : ℕ) → q.held ≡ Mine root steps → (now ≤ q.announce) × (q.announce ≤ now + n.interval_of p)
  -- Capability settles on quiet links, and a port is disabled exactly where it isn't capable. Shown of worlds by
  -- claim_is_kept of the module `world_invariant`, like the two below.
  pub capable : n.ready p ≤ now → IsLinked n.graph p → q.held ≢ Disabled
  pub bare : n.bare ≤ now → (IsLinked n.graph p → ⊥) → (r : Reception) → q.held ≡ Received r → ⊥
  pub unlinked : n.off ≤ now → (IsLinked n.graph p → ⊥) → q.held ≡ Disabled
  -- The rule of the span leaves the interval of a port of the network as it is. The receipt timeout is two or more, and
  -- no delay is above the interval of any port. Shown of worlds by ports_are_due.
  pub long : (r : Reception) (from : PortIdentity) → q.held ≡ Received r → Joins n.graph from p
      → r.said.source ≡ from → r.said.log ≡ n.log_of from → n.interval_of from + n.most < r.span

-- what is known of a live system: it is at rest, and each of its ports is such a one
pub record IsCalmStation (n : Network) (now : ℕ) (s : Station) : Type 0 where
  -- between acts, by systems_are_at_rest; and steps keep it of each port, by ports_stay_selected
  pub at_rest : StationIsAtRest s
  pub ports : (i : ℕ) (q : Port) → slice_get s.ports i ≡ Some q → IsCalmPort n now (port_of s.clock (suc i)) q

-- the system of the snapshot stands at its place, live
pub record HasStation (n : Network) (w : MachineState) (s : System) : Type 0 where
  pub station : Station
  pub there : slice_get w.stations (n.place s.clock) ≡ Some station
  pub live : station.live ≡ true
  pub is : station_system station ≡ s

-- the lane from port p to port q of a link of the snapshot stands at its place, up and without loss
pub record HasLane (n : Network) (w : MachineState) (p q : PortIdentity) : Type 0 where
  pub lane : Lane
  pub there : slice_get w.lanes (n.lane p) ≡ Some lane
  pub from : lane.from ≡ p
  pub to : lane.to ≡ q
  pub loss : lane.loss ≡ 0
  pub is_up : lane.is_up ≡ true

-- Every system, live or failed, stands where its clock says, and those of the snapshot do; so do the lanes of the links
-- of the snapshot, and no two lanes lead to one port. Nothing in flight was due before now.
pub record Calm (n : Network) (w : MachineState) : Type 0 where
  pub facts : StationFacts (network_setting n) w
  pub stations : (i : ℕ) (s : Station) → slice_get w.stations i ≡ Some s → s.live ≡ true → IsCalmStation n w.time s
  -- clocks differ, and the snapshot is of the live systems, by stands_well
  pub placed : (i : ℕ) (s : Station) → slice_get w.stations i ≡ Some s → i ≡ n.place s.clock
  pub there : (s : System) → In s n.graph.systems → HasStation n w s
  -- the links in use are quiet
  pub lanes : (p q : PortIdentity) → Joins n.graph p q → HasLane n w p q
  -- a port has one link at most, by stands_well
  pub apart : (i j : ℕ) (l m : Lane) → slice_get w.lanes i ≡ Some l → slice_get w.lanes j ≡ Some m
      → l.to ≡ m.to → i ≡ j
  -- nothing due earlier is left when an act happens, by frames_are_due
  pub left : (j : ℕ) (l : Lane) (f : AnnounceFrame) → slice_get w.lanes j ≡ Some l → In f l.frames → w.time ≤ f.due
