use Rattle.std.proofs.Common.{add-one}
use Rattle.gptp_graph.proofs.DistanceLemmas.{nearer_neighbour}
use Rattle.gptp_graph.proofs.distances.nearer_neighbour_exists.Goals as goal

pub returns : goal.returns
returns c = λ g v d wf here. nearer_neighbour g v d wf (rw add-one at here)
