use Rattle.gptp_pdelay.proofs.DelayLemmas.{delay_is_within}
use Rattle.gptp_pdelay.proofs.laws.delay_is_within.Goals as goal

pub returns : goal.returns
returns c = delay_is_within
