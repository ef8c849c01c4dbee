-- The first systems, so far.
use Rattle.std.proofs.Common.{◌≡◌, [], map, take}
use Rattle.gptp_topology.specs.After.{node_after}
use Rattle.gptp_topology.specs.Tables.{tables_seen}
use Rattle.gptp_topology.proofs.nodes.nodes_of.Given as goal

abbrev pub invariant-loop-place : goal.invariant-loop-place
invariant-loop-place l = map tables_seen l.nodes.items ≡ map (node_after l.cables []) (take l.place l.network.systems)
