-- Those of the first nodes, so far.
use Rattle.std.proofs.Common.{◌≡◌, take}
use Rattle.gptp_topology.specs.Tables.{systems_in}
use Rattle.gptp_how_soon.proofs.chosen.copy_systems.Given as goal

abbrev pub invariant-loop-node : goal.invariant-loop-node
invariant-loop-node l = l.systems.items ≡ systems_in (take l.node-index l.nodes)
