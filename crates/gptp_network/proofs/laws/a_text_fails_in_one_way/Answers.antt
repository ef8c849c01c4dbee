use Rattle.gptp_network.proofs.LawLemmas.{one_fault}
use Rattle.gptp_network.proofs.laws.a_text_fails_in_one_way.Goals as goal

pub returns : goal.returns
returns c = one_fault
