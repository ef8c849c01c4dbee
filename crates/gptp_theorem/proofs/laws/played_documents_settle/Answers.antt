use Rattle.gptp_theorem.proofs.SettleLemmas.{played_settle}
use Rattle.gptp_theorem.proofs.laws.played_documents_settle.Goals as goal

pub returns : goal.returns
returns g c = played_settle g.F.Fate.answers
