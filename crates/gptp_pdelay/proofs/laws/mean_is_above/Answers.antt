use Rattle.gptp_pdelay.proofs.MeanLemmas.{mean_is_above}
use Rattle.gptp_pdelay.proofs.laws.mean_is_above.Goals as goal

pub returns : goal.returns
returns c = mean_is_above
