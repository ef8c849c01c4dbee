-- It is done to the first systems.
use Rattle.std.proofs.Common.{◌≡◌, ◌++◌, drop, map, take}
use Rattle.gptp_topology.specs.Tables.{node_acted}
use Rattle.gptp_topology.proofs.nodes.act_on_nodes.Given as goal

abbrev pub invariant-loop-node : goal.invariant-loop-node
invariant-loop-node l =
    l.nodes ≡ map (node_acted l.act) (take l.node-index l.fn.nodes) ++ drop l.node-index l.fn.nodes
