use Rattle.gptp_accuracy.proofs.EveryLemmas.{each_is_exact}
use Rattle.gptp_accuracy.proofs.laws.every_document_has_an_accuracy.Goals as goal

pub returns : goal.returns
returns c = each_is_exact
