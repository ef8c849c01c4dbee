-- It is the first of those that are left.
use Rattle.std.proofs.Common.{◌≡◌, drop}
use Rattle.std.specs.List.{find}
use Rattle.gptp_topology.specs.Tables.{has_clock, systems_in}
use Rattle.gptp_topology.proofs.nodes.system_at.Given as goal

abbrev pub invariant-loop-node : goal.invariant-loop-node
invariant-loop-node l =
    find (has_clock l.clock) (systems_in (drop l.node-index l.nodes)) ≡ find (has_clock l.clock) (systems_in l.nodes)
