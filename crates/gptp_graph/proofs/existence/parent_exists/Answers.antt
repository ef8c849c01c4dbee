use Rattle.gptp_graph.proofs.ParentLemmas.{IsParent-unique}
use Rattle.gptp_graph.proofs.TreeLemmas.{best_has_no_parent, parent_of_other}
use Rattle.gptp_graph.proofs.existence.parent_exists.Goals as goal

pub returns-clause-others : goal.returns-clause-others
returns-clause-others c = λ g v best wf is other.
    let (parent, is_parent) = parent_of_other g v best wf is other in
    (parent, is_parent, λ l is_l. IsParent-unique g v l parent is_l is_parent)

pub returns-clause-best : goal.returns-clause-best
returns-clause-best c = best_has_no_parent
