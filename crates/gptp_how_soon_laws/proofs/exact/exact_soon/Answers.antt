use Rattle.gptp_how_soon_laws.proofs.ExactLemmas.{exact_soon}
use Rattle.gptp_how_soon_laws.proofs.exact.exact_soon.Goals as goal

pub returns : goal.returns
returns g c = exact_soon g.F.Fate.answers
