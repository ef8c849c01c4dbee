use Rattle.gptp_accuracy.proofs.OneLemmas.{one_accuracy}
use Rattle.gptp_accuracy.proofs.laws.a_document_has_one_accuracy.Goals as goal

pub returns : goal.returns
returns c = one_accuracy
