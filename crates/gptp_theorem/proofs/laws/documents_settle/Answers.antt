use Rattle.gptp_theorem.proofs.SettleLemmas.{documents_settle}
use Rattle.gptp_theorem.proofs.laws.documents_settle.Goals as goal

pub returns : goal.returns
returns c = documents_settle
