use Rattle.gptp_scaled.proofs.TimeStampLemmas.{time_stamp_is_centred}
use Rattle.gptp_scaled.proofs.laws.time_stamp_is_centred.Goals as goal

pub returns : goal.returns
returns c = time_stamp_is_centred
