use Rattle.gptp_network.proofs.LawLemmas.{one_snapshot}
use Rattle.gptp_network.proofs.laws.a_document_has_one_snapshot.Goals as goal

pub returns : goal.returns
returns c = one_snapshot
