use Rattle.gptp_graph.proofs.SystemLemmas.{length-different}
use Rattle.gptp_graph.proofs.PathLemmas.{path_bounded}
use Rattle.gptp_graph.proofs.DistanceLemmas.{IsDistance-bounded}
use Rattle.gptp_graph.proofs.distances.distances_bounded.Goals as goal

pub returns-clause-members : goal.returns-clause-members
returns-clause-members c = length-different

pub returns-clause-paths : goal.returns-clause-paths
returns-clause-paths c = path_bounded

pub returns-clause-distances : goal.returns-clause-distances
returns-clause-distances c = IsDistance-bounded
