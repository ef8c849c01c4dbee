-- Those counted and those left to count are all, and no more are counted than were looked at.
use Rattle.std.proofs.Common.{◌≡◌, ◌≤◌, ◌+◌, drop}
use Rattle.std.specs.List.{count_by}
use Rattle.gptp_topology.specs.Tables.{marked_between}
use Rattle.gptp_topology.proofs.tables.live_between.Given as goal

abbrev pub invariant-loop-node : goal.invariant-loop-node
invariant-loop-node l =
    (l.count + count_by (marked_between l.marks) (drop l.node-index l.nodes)
    ≡ count_by (marked_between l.marks) l.nodes)
    × (l.count ≤ l.node-index)
