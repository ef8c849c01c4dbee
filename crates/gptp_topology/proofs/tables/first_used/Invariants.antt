-- It is the first of those that are left.
use Rattle.std.proofs.Common.{◌≡◌, drop}
use Rattle.gptp_topology.specs.Tables.{first_used}
use Rattle.gptp_topology.proofs.tables.first_used.Given as goal

abbrev pub invariant-loop-neighbour : goal.invariant-loop-neighbour
invariant-loop-neighbour l =
    first_used l.marks (drop l.neighbour-index l.neighbours) ≡ first_used l.marks l.neighbours
