use Rattle.gptp_scaled.proofs.TimeStampLemmas.{noise_is_within}
use Rattle.gptp_scaled.proofs.laws.noise_is_within.Goals as goal

pub returns : goal.returns
returns c = noise_is_within
