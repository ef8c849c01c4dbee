use Rattle.gptp_graph.proofs.PathBoundLemmas.{joined_adjacent, adjacent_joined, two_from, two_back}
use Rattle.gptp_graph.proofs.paths.neighbours_counted.Goals as goal

pub returns-clause-joined : goal.returns-clause-joined
returns-clause-joined c = λ g v w. (joined_adjacent g v w, adjacent_joined g v w)

pub returns-clause-two : goal.returns-clause-two
returns-clause-two c = λ g v wf. (two_from g v, two_back g v wf)
