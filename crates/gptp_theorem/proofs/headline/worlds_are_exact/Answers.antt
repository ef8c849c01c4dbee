use Rattle.gptp_theorem.proofs.HeadlineLemmas.{worlds_are_exact}
use Rattle.gptp_theorem.proofs.headline.worlds_are_exact.Goals as goal

pub returns : goal.returns
returns g c = worlds_are_exact g.F.Fate.answers
