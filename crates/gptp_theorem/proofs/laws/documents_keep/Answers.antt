use Rattle.gptp_theorem.proofs.SettlingInvariantLemmas.{played_claimed}
use Rattle.gptp_theorem.proofs.laws.documents_keep.Goals as goal

pub returns : goal.returns
returns g c = played_claimed g.F.Fate.answers
