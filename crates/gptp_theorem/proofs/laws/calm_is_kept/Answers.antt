use Rattle.gptp_theorem.proofs.CalmKeptLemmas.{calm_is_kept}
use Rattle.gptp_theorem.proofs.laws.calm_is_kept.Goals as goal

pub returns : goal.returns
returns g c = calm_is_kept g.F.Fate.answers
