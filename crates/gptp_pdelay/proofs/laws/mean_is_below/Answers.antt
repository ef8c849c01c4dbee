use Rattle.gptp_pdelay.proofs.MeanLemmas.{mean_is_below}
use Rattle.gptp_pdelay.proofs.laws.mean_is_below.Goals as goal

pub returns : goal.returns
returns c = mean_is_below
