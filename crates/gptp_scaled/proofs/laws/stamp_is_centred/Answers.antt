use Rattle.gptp_scaled.proofs.TimeStampLemmas.{stamp_is_centred}
use Rattle.gptp_scaled.proofs.laws.stamp_is_centred.Goals as goal

pub returns : goal.returns
returns c = stamp_is_centred
