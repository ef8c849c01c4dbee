use Rattle.gptp_reading.proofs.WayLemmas.{reading_is_right}
use Rattle.gptp_reading.proofs.laws.reading_is_right.Goals as goal

pub returns : goal.returns
returns c = reading_is_right
