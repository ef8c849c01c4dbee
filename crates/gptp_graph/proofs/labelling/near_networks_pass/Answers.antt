use Rattle.gptp_graph.proofs.NearLemmas.{near_where_passed, passed_where_near}
use Rattle.gptp_graph.proofs.labelling.near_networks_pass.Goals as goal

pub returns : goal.returns
returns c = λ g wf. (near_where_passed g wf, passed_where_near g wf)
