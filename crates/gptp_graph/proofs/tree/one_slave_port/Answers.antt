use Rattle.gptp_graph.proofs.TreeLemmas.{best_has_no_parent, slave_exists_once}
use Rattle.gptp_graph.proofs.tree.one_slave_port.Goals as goal

pub returns-clause-others : goal.returns-clause-others
returns-clause-others c = slave_exists_once

pub returns-clause-best : goal.returns-clause-best
returns-clause-best c =
    λ g v n best wf is e (linked, (l, parent, own)). best_has_no_parent g v best l wf is e parent
