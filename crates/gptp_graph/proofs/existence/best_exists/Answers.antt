use Rattle.gptp_graph.proofs.BestLemmas.{IsBest-unique}
use Rattle.gptp_graph.proofs.ExistenceLemmas.{best_exists}
use Rattle.gptp_graph.proofs.existence.best_exists.Goals as goal

pub returns : goal.returns
returns c = λ g v wf here.
    let (best, is) = best_exists g v wf here in
    (best, is, λ other is_other. IsBest-unique g v other best wf is_other is)
