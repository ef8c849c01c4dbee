-- Those so far, and those of the links that are left, are all.
use Rattle.std.proofs.Common.{◌≡◌, ◌++◌, drop}
use Rattle.gptp_topology.specs.Tables.{neighbours_of}
use Rattle.gptp_topology.proofs.nodes.neighbours_of.Given as goal

abbrev pub invariant-loop-cable : goal.invariant-loop-cable
invariant-loop-cable l =
    l.neighbours.items ++ neighbours_of l.clock (drop l.cable-index l.cables) ≡ neighbours_of l.clock l.cables
