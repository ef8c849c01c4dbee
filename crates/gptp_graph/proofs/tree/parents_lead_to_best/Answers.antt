use Rattle.gptp_graph.proofs.TreeLemmas.{climbs}
use Rattle.gptp_graph.proofs.tree.parents_lead_to_best.Goals as goal

pub returns : goal.returns
returns c = climbs
