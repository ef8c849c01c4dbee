use Rattle.gptp_graph.proofs.RoleLemmas.{parent_is_master}
use Rattle.gptp_graph.proofs.TreeLemmas.{parent_is_slave}
use Rattle.gptp_graph.proofs.tree.parent_is_master.Goals as goal

pub returns : goal.returns
returns c = λ g v l wf parent. (parent_is_slave g v l parent, parent_is_master g v l wf parent)
