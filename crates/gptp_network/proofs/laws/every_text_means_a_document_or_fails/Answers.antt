use Rattle.gptp_network.proofs.LawLemmas.{means_or_fails}
use Rattle.gptp_network.proofs.laws.every_text_means_a_document_or_fails.Goals as goal

pub returns : goal.returns
returns c = means_or_fails
