-- How a snapshot is kept: its systems and links, and both ends of each link by rising port (profile).
use Rattle.std.specs.Prelude.{◌≡◌, ◌↔◌, ◌⊎◌, ◌<◌, ◌≤◌, ◌^◌, ℕ, List, [], ◌∷◌, length, map, Some, slice_get}
use Rattle.std.specs.declared.cmp.Ordering.{Ordering}
use Rattle.std.specs.List.Sorted.{IsPermutation, IsSortedByKey}
use Rattle.std.specs.Ordering.{nat_cmp, ordering_then}
use Rattle.gptp_lists.specs.Members.{In}
use Rattle.gptp_graph.specs.Order.{IsRising}
use Rattle.gptp_graph.specs.Snapshot.{System, Link, Snapshot, IsWellFormed}
use Rattle.gptp_vector.specs.declared.port.PortId.{PortId}
use Rattle.gptp_scenario.specs.declared.change.Timed.{Timed}
use Rattle.gptp_scenario.specs.declared.network.SystemSpec.{SystemSpec}
use Rattle.gptp_network.specs.declared.snapshot.LinkEnd.{LinkEnd}
use Rattle.gptp_network.specs.declared.snapshot.LiveSystem.{LiveSystem}
use Rattle.gptp_network.specs.declared.snapshot.UsedLink.{UsedLink}
use Rattle.gptp_network.specs.Snapshot.{link_of, live_systems, system_of}

-- the system at this place has this clock
pub record HasClock (systems : List System) (clock place : ℕ) : Type 0 where
  pub system : System
  pub there : slice_get systems place ≡ Some system
  pub is : system.clock ≡ clock

-- what is kept, as gptp_graph has it
abbrev pub seen_systems : List LiveSystem → List System
seen_systems = map (λ (s : LiveSystem). system_of (s.identity, s.ports))

abbrev pub seen_links : List UsedLink → List Link
seen_links = map (λ (l : UsedLink). link_of (l.a, l.b))

abbrev pub seen : List LiveSystem → List UsedLink → Snapshot
seen systems links = record { systems = seen_systems systems; links = seen_links links }

-- each clock is lower than those after it
abbrev pub RisesByClock : List LiveSystem → Type 0
RisesByClock systems = IsRising (map (λ (s : System). s.clock) (seen_systems systems))

-- each identity is of fourteen octets
abbrev pub HaveOctets : List LiveSystem → Type 0
HaveOctets systems = (s : LiveSystem) → In s systems → s.identity < 2 ^ 112

-- the members that live after these events, in their order
pub record AreLive (members : List SystemSpec) (events : List Timed) (systems : List LiveSystem) : Type 0 where
  pub are : seen_systems systems ≡ live_systems members events
  pub octets : HaveOctets systems

-- the members that live after these events, by rising clock
pub record AreSystems (members : List SystemSpec) (events : List Timed) (systems : List LiveSystem) : Type 0 where
  pub are : IsPermutation (live_systems members events) (seen_systems systems)
  pub rising : RisesByClock systems
  pub octets : HaveOctets systems

-- a link from one of its ends, and from the other
abbrev pub both_ends : UsedLink → List LinkEnd
both_ends l = record { here = l.a; there = l.b } ∷ record { here = l.b; there = l.a } ∷ []

-- ports in the order of clocks and then of numbers
abbrev pub port_order : PortId → PortId → Ordering
port_order p q = ordering_then (nat_cmp p.clock q.clock) (nat_cmp p.port q.port)

-- no end is of a lower port than the one before it
abbrev pub RisesByPort : List LinkEnd → Type 0
RisesByPort = IsSortedByKey (λ (e : LinkEnd). e.here) port_order

-- the ends are those of the links, by rising port
pub record AreEnds (links : List Link) (ends : List LinkEnd) : Type 0 where
  pub order : RisesByPort ends
  pub all : (here there : PortId) → In (link_of (here, there)) links ⊎ In (link_of (there, here)) links
      ↔ In (record { here = here; there = there }) ends

-- what a snapshot keeps
pub record AreTables (systems : List LiveSystem) (links : List UsedLink) (ends : List LinkEnd) : Type 0 where
  pub network : IsWellFormed (seen systems links)
  pub few : length systems ≤ 512
  pub rising : RisesByClock systems
  pub ends_are : AreEnds (seen_links links) ends
