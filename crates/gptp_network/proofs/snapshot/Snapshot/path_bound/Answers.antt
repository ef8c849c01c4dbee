-- The number is the bound of gptp_graph.
use Rattle.gptp_graph.proofs.PathBoundLemmas.{paths_within}
use Rattle.gptp_network.proofs.snapshot.Snapshot.path_bound.Goals as goal

pub returns-clause-paths : goal.returns-clause-paths
returns-clause-paths c =
    rw (c.min.ensures, c.with_two_neighbours.ensures.count, c.systems.ensures)
    (paths_within c.args.self.now c.well_formed-2.ensures.network)
