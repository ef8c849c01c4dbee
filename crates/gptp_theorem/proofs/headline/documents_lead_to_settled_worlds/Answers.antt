use Rattle.gptp_theorem.proofs.HeadlineLemmas.{documents_lead}
use Rattle.gptp_theorem.proofs.headline.documents_lead_to_settled_worlds.Goals as goal

pub returns : goal.returns
returns g c = documents_lead g.F.Fate.answers
