-- Links as they stand after all events (profile).
use Rattle.std.specs.Prelude.{◌≤◌, ◌+◌, ◌&&◌, ◌||◌, ℕ, Bool, if◌then◌else◌, List, [], ◌∷◌, filter, map, Option, Some, None}
use Rattle.std.specs.List.{list_any, range_with_len}
use Rattle.gptp_setup.specs.declared.limits.TheConstants.{MOST_PORTS}
use Rattle.gptp_links.specs.declared.bounds.Bounds.{Bounds}
use Rattle.gptp_network.specs.Document.{DocumentState}
use Rattle.gptp_scenario.specs.Change.{link_after}
use Rattle.gptp_scenario.specs.Network.{same_port}
use Rattle.gptp_scenario.specs.declared.change.Timed.{Timed}
use Rattle.gptp_scenario.specs.declared.network.LinkSpec.{LinkSpec}
use Rattle.gptp_topology.specs.Course.{cable_of}
use Rattle.gptp_topology.specs.declared.course.Cable.{Cable}
use Rattle.gptp_vector.specs.declared.port.PortId.{PortId}

-- all links of a document, in its order
abbrev pub cable_after : List Timed → LinkSpec → Cable
cable_after events w = cable_of (link_after events w)

abbrev pub cables_after : DocumentState → List Cable
cables_after d = map (cable_after d.events) d.network.links

-- the bounds of a link are in their ranges
pub record HasBounds (c : Cable) : Type 0 where
  pub least : 1 ≤ c.bounds.min
  pub share : c.bounds.loss ≤ 1000

abbrev pub is_at_port : Cable → PortId → Bool
is_at_port c p = same_port c.a p || same_port c.b p

-- the bounds of the link of which this is the first end
abbrev pub bounds_at : List Cable → PortId → Option Bounds
bounds_at [] p = None
bounds_at (c ∷ cs) p = if same_port c.a p then Some c.bounds else bounds_at cs p

-- a link that is up is at the port, whether or not the other end lives
abbrev pub is_up_at : List Cable → PortId → Bool
is_up_at cs p = list_any (λ (c : Cable). c.up && is_at_port c p) cs

-- the ports of a system at which one is, by rising number
abbrev pub port_after : ℕ → ℕ → PortId
port_after clock index = record { clock = clock; port = index + 1 }

abbrev pub up_ports : List Cable → ℕ → List PortId
up_ports cs clock = filter (is_up_at cs) (map (port_after clock) (range_with_len 0 MOST_PORTS))
