use Rattle.gptp_theorem.proofs.HeadlineLemmas.{documents_at_once}
use Rattle.gptp_theorem.proofs.headline.documents_settle_at_once.Goals as goal

pub returns : goal.returns
returns g c = documents_at_once g.F.Fate.answers
