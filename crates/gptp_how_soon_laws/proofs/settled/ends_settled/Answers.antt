use Rattle.gptp_how_soon_laws.proofs.EndLemmas.{ends_settled}
use Rattle.gptp_how_soon_laws.proofs.settled.ends_settled.Goals as goal

pub returns : goal.returns
returns g c = ends_settled g.F.Fate.answers
