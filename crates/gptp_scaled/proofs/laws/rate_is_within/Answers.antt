use Rattle.gptp_scaled.proofs.CountLemmas.{rate_is_within}
use Rattle.gptp_scaled.proofs.laws.rate_is_within.Goals as goal

pub returns : goal.returns
returns c = rate_is_within
