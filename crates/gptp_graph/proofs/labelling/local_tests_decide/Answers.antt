use Rattle.gptp_graph.proofs.SoundLemmas.{sound}
use Rattle.gptp_graph.proofs.CompleteLemmas.{complete}
use Rattle.gptp_graph.proofs.labelling.local_tests_decide.Goals as goal

pub returns : goal.returns
returns c = λ g lines wf. (sound g lines wf, complete g lines wf)
