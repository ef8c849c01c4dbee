use Rattle.gptp_scaled.proofs.TimeStampLemmas.{time_stamp_is_near}
use Rattle.gptp_scaled.proofs.laws.time_stamp_is_near.Goals as goal

pub returns : goal.returns
returns c = time_stamp_is_near
