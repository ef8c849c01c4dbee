-- The first systems, so far.
use Rattle.std.proofs.Common.{◌≡◌, map, take}
use Rattle.gptp_topology.specs.Tables.{systems_in}
use Rattle.gptp_lint.specs.Graph.{HaveOctets}
use Rattle.gptp_lint.specs.Labels.{lone_label}
use Rattle.gptp_lint.proofs.labels.all_alone.Given as goal

abbrev pub invariant-loop-node : goal.invariant-loop-node
invariant-loop-node l = record {
  are : l.labels.items ≡ map lone_label (systems_in (take l.node-index l.nodes));
  octets : HaveOctets (systems_in (take l.node-index l.nodes));
}
