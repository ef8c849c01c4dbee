use Rattle.gptp_graph.proofs.DistanceLemmas.{IsDistance-unique}
use Rattle.gptp_graph.proofs.ExistenceLemmas.{distance_exists}
use Rattle.gptp_graph.proofs.existence.distance_exists.Goals as goal

pub returns : goal.returns
returns c = λ g v wf here.
    let (d, is) = distance_exists g v wf here in
    (d, is, λ other is_other. IsDistance-unique g v other d wf is_other is)
