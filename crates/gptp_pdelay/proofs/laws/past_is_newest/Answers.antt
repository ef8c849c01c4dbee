use Rattle.gptp_pdelay.proofs.PastLemmas.{past_is_newest}
use Rattle.gptp_pdelay.proofs.laws.past_is_newest.Goals as goal

pub returns : goal.returns
returns c = past_is_newest
