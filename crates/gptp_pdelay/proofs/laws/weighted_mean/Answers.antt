use Rattle.gptp_pdelay.proofs.MeanLemmas.{weighted_mean}
use Rattle.gptp_pdelay.proofs.laws.weighted_mean.Goals as goal

pub returns : goal.returns
returns c = weighted_mean
