-- The act meets the links that are left as it met all at first, and what is kept of them agrees.
use Rattle.std.proofs.Common.{◌≡◌, drop, map}
use Rattle.gptp_topology.specs.Tables.{acted_along, mark_of}
use Rattle.gptp_topology.proofs.tables.act_along.Given as goal

abbrev pub invariant-loop-neighbour : goal.invariant-loop-neighbour
invariant-loop-neighbour l =
    (acted_along l.done (drop l.neighbour-index l.neighbours) l.standings.items
    ≡ acted_along l.done l.neighbours l.initial.standings.items)
    × (l.marks.items ≡ map (mark_of l.params) l.standings.items)
