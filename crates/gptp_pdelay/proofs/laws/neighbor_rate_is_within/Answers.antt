use Rattle.gptp_pdelay.proofs.ExchangeLemmas.{neighbor_rate_is_within}
use Rattle.gptp_pdelay.proofs.laws.neighbor_rate_is_within.Goals as goal

pub returns : goal.returns
returns c = neighbor_rate_is_within
