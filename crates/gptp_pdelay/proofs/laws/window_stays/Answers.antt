use Rattle.gptp_pdelay.proofs.PastLemmas.{window_stays}
use Rattle.gptp_pdelay.proofs.laws.window_stays.Goals as goal

pub returns : goal.returns
returns c = window_stays
