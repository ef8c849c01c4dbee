-- It is done to one system more.
use Rattle.std.proofs.Common.{get_or, slice_set, ap, ◌∙◌}
use Rattle.gptp_topology.specs.Tables.{node_acted}
use Rattle.gptp_topology.specs.declared.nodes.Node.{Node}
use Rattle.gptp_topology.proofs.SystemSpecLemmas.{mapped_set}
use Rattle.gptp_topology.proofs.nodes.act_on_nodes.Goals as goal

pub loop-node-preserved : goal.loop-node-preserved
loop-node-preserved c =
    let i = c.loop-node.node-index in
    let d = c.node-item.result in
    let f = node_acted c.args.act.now in
    let one : Node = get_or c.loop-node.nodes i d in
    ap (λ system. slice_set c.loop-node.nodes i (record { system = system; neighbours = one.neighbours }))
    c.act_on_system.ensures
    ∙ ap (λ os. slice_set os i (f (get_or os i d))) c.loop-node.invariant
    ∙ mapped_set f c.args.nodes.now i d c.loop-node-test.true
