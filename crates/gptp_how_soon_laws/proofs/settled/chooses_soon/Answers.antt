use Rattle.gptp_how_soon_laws.proofs.SettledLemmas.{chooses_soon}
use Rattle.gptp_how_soon_laws.proofs.settled.chooses_soon.Goals as goal

pub returns : goal.returns
returns g c = chooses_soon g.F.Fate.answers
