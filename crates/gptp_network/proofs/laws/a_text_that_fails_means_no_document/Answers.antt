use Rattle.gptp_network.proofs.LawLemmas.{never_both}
use Rattle.gptp_network.proofs.laws.a_text_that_fails_means_no_document.Goals as goal

pub returns : goal.returns
returns c = never_both
