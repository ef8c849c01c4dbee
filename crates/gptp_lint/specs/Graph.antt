-- How the links of a document join its systems, by place (profile).
use Rattle.std.specs.Prelude.{◌≡◌, ◌<◌, ◌^◌, ℕ, suc, ◌==◌, if◌then◌else◌, List, [], ◌∷◌, map, Option, Some, None}
use Rattle.gptp_lists.specs.Members.{In}
use Rattle.gptp_scenario.specs.Network.{NetworkState}
use Rattle.gptp_scenario.specs.declared.change.Timed.{Timed}
use Rattle.gptp_scenario.specs.declared.network.LinkSpec.{LinkSpec}
use Rattle.gptp_topology.specs.After.{Stand, standing_then, systems_after}
use Rattle.gptp_topology.specs.Course.{cable_of}
use Rattle.gptp_topology.specs.Tables.{cables_of, clocks_of, systems_in}
use Rattle.gptp_topology.specs.declared.course.Cable.{Cable}
use Rattle.gptp_topology.specs.declared.course.Standing.{Standing}
use Rattle.gptp_topology.specs.declared.nodes.Node.{Node}
use Rattle.gptp_topology.specs.declared.nodes.System.{System}
use Rattle.gptp_lint.specs.declared.graph.Edge.{Edge}
use Rattle.gptp_lint.specs.declared.graph.Ends.{Ends}
use Rattle.gptp_lint.specs.declared.graph.Graph.{Graph}

-- the place of a clock among these, or their number
abbrev pub place_in : ℕ → List ℕ → ℕ
place_in clock [] = 0
place_in clock (c ∷ cs) = if c == clock then 0 else suc (place_in clock cs)

abbrev pub clocks_in : List Node → List ℕ
clocks_in = map (λ (o : Node). o.system.clock)

-- the places of the systems at a link's ends, where systems have these clocks
abbrev pub ends_of : List ℕ → Cable → Ends
ends_of clocks c = record { from = place_in c.a.clock clocks; to = place_in c.b.clock clocks }

-- links with these ends, as they stand
abbrev pub edge_with : Ends → Standing → Edge
edge_with e s = record { from = e.from; to = e.to; up = s.cable.up }

abbrev pub edge_by : Option Ends → Option Standing → Option Edge
edge_by None s = None
edge_by (Some e) None = None
edge_by (Some e) (Some s) = Some (edge_with e s)

abbrev pub edges_in : List Ends → List Standing → List Edge
edges_in [] ss = []
edges_in (e ∷ es) [] = []
edges_in (e ∷ es) (s ∷ ss) = edge_with e s ∷ edges_in es ss

-- systems, and links between their places: as they are seen, and those of a network after events
pub record GraphState : Type 0 where
  pub systems : List System
  pub edges : List Edge

abbrev pub graph_seen : Graph → GraphState
graph_seen g = record {
  systems = systems_in g.tables.nodes.items;
  edges = edges_in g.ends.items g.tables.standings.items;
}

abbrev pub edge_after : NetworkState → List Timed → LinkSpec → Edge
edge_after n events w = edge_with (ends_of (clocks_of n) (cable_of w)) (standing_then n events w)

abbrev pub graph_after : NetworkState → List Timed → GraphState
graph_after n events = record { systems = systems_after n events; edges = map (edge_after n events) n.links }

-- the graph of the network after these events
pub record IsGraph (n : NetworkState) (events : List Timed) (g : Graph) : Type 0 where
  pub tables : Stand n events g.tables
  pub ends : g.ends.items ≡ map (ends_of (clocks_of n)) (cables_of n)

-- each identity is of fourteen octets
abbrev pub HaveOctets : List System → Type 0
HaveOctets os = (o : System) → In o os → o.identity < 2 ^ 112
