use Rattle.gptp_scaled.proofs.TimeStampLemmas.{stamp_is_near}
use Rattle.gptp_scaled.proofs.laws.stamp_is_near.Goals as goal

pub returns : goal.returns
returns c = stamp_is_near
