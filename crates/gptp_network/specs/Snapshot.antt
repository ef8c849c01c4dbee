-- The network of a document as it stands at a time: the live systems, and the links that are up between two of them
-- (profile).
use Rattle.std.specs.Prelude.{◌≡◌, ℕ, ◌==◌, ◌&&◌, ◌≤◌, nat_le, Bool, List, length, map, filter, filter_map}
use Rattle.std.specs.List.{list_any}
use Rattle.std.specs.List.Sorted.{IsPermutation}
use Rattle.gptp_lists.specs.Members.{In}
use Rattle.gptp_graph.specs.Order.{IsRising}
use Rattle.gptp_graph.specs.Snapshot.{System, PortIdentity, Link, Snapshot, clocks}
use Rattle.gptp_roles.specs.Selection.{clock_of}
use Rattle.gptp_vector.specs.declared.port.PortId.{PortId}
use Rattle.gptp_setup.specs.declared.limits.TheConstants.{MOST_PORTS}
use Rattle.gptp_scenario.specs.Change.{joined_after, live_after}
use Rattle.gptp_scenario.specs.Network.{NetworkState}
use Rattle.gptp_scenario.specs.declared.change.Timed.{Timed}
use Rattle.gptp_scenario.specs.declared.network.SystemSpec.{SystemSpec}
use Rattle.gptp_scenario.specs.declared.network.LinkSpec.{LinkSpec}
use Rattle.gptp_network.specs.Document.{DocumentState}

-- the events up to a time, in their order
abbrev pub events_by : ℕ → List Timed → List Timed
events_by until = filter (λ (t : Timed). nat_le t.at until)

-- a port, a system by its identity and the number of its ports, and a link by its ends, as gptp_graph names them
abbrev pub port_identity : PortId → PortIdentity
port_identity p = record { clock = p.clock; port = p.port }

abbrev pub system_of : ℕ × ℕ → System
system_of (identity, ports) = record { clock = clock_of identity; identity = identity; ports = ports }

abbrev pub link_of : PortId × PortId → Link
link_of (a, b) = record { a = port_identity a; b = port_identity b }

-- the systems that live after these events, in the order of the document
abbrev pub live_systems : List SystemSpec → List Timed → List System
live_systems members events = map system_of (filter_map (live_after events) members)

-- one of the systems has this clock
abbrev pub has_clock : List System → ℕ → Bool
has_clock systems clock = list_any (λ (s : System). s.clock == clock) systems

abbrev pub joins_two : List System → Link → Bool
joins_two systems l = has_clock systems l.a.clock && has_clock systems l.b.clock

-- the links that are up after these events between two of the systems, in the order of the document
abbrev pub used_links : List LinkSpec → List Timed → List System → List Link
used_links links events systems = filter (joins_two systems) (map link_of (filter_map (joined_after events) links))

-- The network after these events: its live systems by rising clock, and the links that are up between two of them.
pub record StandsAfter (n : NetworkState) (events : List Timed) (g : Snapshot) : Type 0 where
  pub systems : IsPermutation (live_systems n.systems events) g.systems
  pub rising : IsRising (clocks g)
  pub links : g.links ≡ used_links n.links events g.systems

-- The snapshot of a document at a time: its network after all events up to then.
abbrev pub IsSnapshot : DocumentState → ℕ → Snapshot → Type 0
IsSnapshot d at = StandsAfter d.network (events_by at d.events)

-- the limits that the snapshot of every network keeps: 512 systems at most, and the ports of each
pub record IsWithinLimits (g : Snapshot) : Type 0 where
  pub systems : length g.systems ≤ 512
  pub ports : (s : System) → In s g.systems → s.ports ≤ MOST_PORTS
