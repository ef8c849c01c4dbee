use Rattle.gptp_network.proofs.ForgetLemmas.{document_is}
use Rattle.gptp_network.proofs.laws.a_refusal_names_the_fault.Goals as goal

pub returns : goal.returns
returns c = document_is
