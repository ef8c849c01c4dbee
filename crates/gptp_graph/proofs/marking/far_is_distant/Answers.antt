use Rattle.gptp_graph.proofs.MarkingLemmas.{far_is, is_far}
use Rattle.gptp_graph.proofs.marking.far_is_distant.Goals as goal

pub returns : goal.returns
returns c = λ g all one d wf h stated here. (far_is g wf all h one d stated here, is_far g wf all h one d stated here)
