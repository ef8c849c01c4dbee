-- It is the first of those that are left.
use Rattle.std.proofs.Common.{◌≡◌, drop}
use Rattle.gptp_topology.specs.Tables.{link_named}
use Rattle.gptp_topology.proofs.tables.link_named.Given as goal

abbrev pub invariant-loop-neighbour : goal.invariant-loop-neighbour
invariant-loop-neighbour l =
    link_named l.standings l.done (drop l.neighbour-index l.neighbours)
    ≡ link_named l.standings l.done l.neighbours
