use Rattle.gptp_network.proofs.LawLemmas.{one_meaning}
use Rattle.gptp_network.proofs.laws.a_text_means_one_document.Goals as goal

pub returns : goal.returns
returns c = one_meaning
