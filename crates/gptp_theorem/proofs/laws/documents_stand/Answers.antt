use Rattle.gptp_theorem.proofs.PlayedLemmas.{played_stands}
use Rattle.gptp_theorem.proofs.laws.documents_stand.Goals as goal

pub returns : goal.returns
returns g c = played_stands g.F.Fate.answers
