use Rattle.gptp_scaled.proofs.CountLemmas.{measured_within}
use Rattle.gptp_scaled.proofs.laws.measured_within.Goals as goal

pub returns : goal.returns
returns c = measured_within
