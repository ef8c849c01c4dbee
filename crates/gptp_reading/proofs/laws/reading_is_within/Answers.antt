use Rattle.gptp_reading.proofs.HopLemmas.{reading_is_within}
use Rattle.gptp_reading.proofs.laws.reading_is_within.Goals as goal

pub returns : goal.returns
returns c = reading_is_within
