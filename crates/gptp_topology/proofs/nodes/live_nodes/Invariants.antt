-- Those counted and those left to count are all, and no more are counted than were looked at.
use Rattle.std.proofs.Common.{◌≡◌, ◌≤◌, ◌+◌, drop}
use Rattle.std.specs.List.{count_by}
use Rattle.gptp_topology.specs.declared.nodes.Node.{Node}
use Rattle.gptp_topology.proofs.nodes.live_nodes.Given as goal

abbrev pub invariant-loop-node : goal.invariant-loop-node
invariant-loop-node l =
    (l.count + count_by (λ (o : Node). o.system.lives) (drop l.node-index l.nodes)
    ≡ count_by (λ (o : Node). o.system.lives) l.nodes)
    × (l.count ≤ l.node-index)
