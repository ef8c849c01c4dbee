use Rattle.gptp_how_soon_laws.proofs.SettledLemmas.{settles_soon}
use Rattle.gptp_how_soon_laws.proofs.settled.settled_soon.Goals as goal

pub returns : goal.returns
returns g c = settles_soon g.F.Fate.answers
