use Rattle.gptp_theorem.proofs.RestLemmas.{calm_rests}
use Rattle.gptp_theorem.proofs.laws.calm_documents_rest.Goals as goal

pub returns : goal.returns
returns c = calm_rests
