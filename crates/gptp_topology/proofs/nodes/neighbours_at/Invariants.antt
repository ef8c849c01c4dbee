-- They are those at the first of the systems that are left.
use Rattle.std.proofs.Common.{◌≡◌, drop}
use Rattle.gptp_topology.specs.Tables.{neighbours_at}
use Rattle.gptp_topology.proofs.nodes.neighbours_at.Given as goal

abbrev pub invariant-loop-node : goal.invariant-loop-node
invariant-loop-node l = neighbours_at l.clock (drop l.node-index l.nodes) ≡ neighbours_at l.clock l.nodes
