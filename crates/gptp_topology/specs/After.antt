-- How the systems and the links of a network stand after events, and whether it is calm then (profile).
use Rattle.std.specs.Prelude.{◌≡◌, ◌||◌, not, Bool, List, map}
use Rattle.std.specs.List.{list_any}
use Rattle.std.specs.Option.{is_some}
use Rattle.gptp_roles.specs.Selection.{clock_of}
use Rattle.gptp_scenario.specs.Change.{link_after, system_after}
use Rattle.gptp_scenario.specs.InUse.{lives}
use Rattle.gptp_scenario.specs.Network.{NetworkState}
use Rattle.gptp_scenario.specs.SyncWait.{sync_paths}
use Rattle.gptp_scenario.specs.declared.change.Timed.{Timed}
use Rattle.gptp_scenario.specs.declared.network.LinkSpec.{LinkSpec}
use Rattle.gptp_scenario.specs.declared.network.SystemSpec.{SystemSpec}
use Rattle.gptp_topology.specs.Course.{cable_of}
use Rattle.gptp_topology.specs.Tables.{AreMarked, NodeState, cables_of, late_of, node_with, tables_seen}
use Rattle.gptp_topology.specs.Trouble.{is_troubled}
use Rattle.gptp_topology.specs.declared.course.Cable.{Cable}
use Rattle.gptp_topology.specs.declared.course.Standing.{Standing}
use Rattle.gptp_topology.specs.declared.nodes.System.{System}
use Rattle.gptp_topology.specs.declared.tables.Tables.{Tables}

-- a system, and each of a network
abbrev pub system_then : List Timed → SystemSpec → System
system_then events m = record {
  clock = clock_of m.identity;
  identity = (system_after events m).identity;
  lives = (system_after events m).live;
}

abbrev pub systems_after : NetworkState → List Timed → List System
systems_after n events = map (system_then events) n.systems

-- a link, and each of a network
abbrev pub standing_then : NetworkState → List Timed → LinkSpec → Standing
standing_then n events w = record {
  at = 0;
  cable = cable_of (link_after events w);
  a_lives = lives n.systems events w.a.clock;
  b_lives = lives n.systems events w.b.clock;
}

abbrev pub standings_after : NetworkState → List Timed → List Standing
standings_after n events = map (standing_then n events) n.links

-- A network is calm where Sync isn't late, and no link in use is too long or loses frames.
abbrev pub is_calm : NetworkState → List Timed → Bool
is_calm n events =
    not (is_some (late_of n.params (sync_paths n events)) || list_any (is_troubled n.params) (standings_after n events))

-- the tables of the network stand so
abbrev pub node_after : List Cable → List Timed → SystemSpec → NodeState
node_after cables events m = node_with cables (system_then events m)

pub record Stand (n : NetworkState) (events : List Timed) (t : Tables) : Type 0 where
  pub params : t.params ≡ n.params
  pub nodes : map tables_seen t.nodes.items ≡ map (node_after (cables_of n) events) n.systems
  pub standings : t.standings.items ≡ standings_after n events
  pub marks : AreMarked t
