use Rattle.std.proofs.Common.{◌+◌, length}
use Rattle.std.proofs.Math.Nat.{min-le_right}
use Rattle.gptp_graph.specs.PathBound.{with_two_neighbours}
use Rattle.gptp_graph.proofs.PathLemmas.{path_bounded}
use Rattle.gptp_graph.proofs.PathBoundLemmas.{IsDistance-within, paths_within}
use Rattle.gptp_graph.proofs.paths.paths_bounded.Goals as goal

pub returns-clause-systems : goal.returns-clause-systems
returns-clause-systems c = λ g wf v w us p. path_bounded g v w us wf p

pub returns-clause-neighbours : goal.returns-clause-neighbours
returns-clause-neighbours c = paths_within

pub returns-clause-least : goal.returns-clause-least
returns-clause-least c = λ g. min-le_right (with_two_neighbours g + 2) (length g.systems)

pub returns-clause-distances : goal.returns-clause-distances
returns-clause-distances c = IsDistance-within
