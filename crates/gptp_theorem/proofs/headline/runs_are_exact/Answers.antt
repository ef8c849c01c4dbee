use Rattle.gptp_theorem.proofs.RunLemmas.{runs_are_exact}
use Rattle.gptp_theorem.proofs.headline.runs_are_exact.Goals as goal

pub returns : goal.returns
returns g c = runs_are_exact g.F.Fate.answers
