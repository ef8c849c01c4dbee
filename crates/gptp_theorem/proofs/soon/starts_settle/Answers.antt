use Rattle.gptp_theorem.proofs.SoonLemmas.{starts_settle}
use Rattle.gptp_theorem.proofs.soon.starts_settle.Goals as goal

pub returns : goal.returns
returns g c = starts_settle g.F.Fate.answers
