use Rattle.gptp_reading.proofs.ExactLemmas.{worlds_have_readings}
use Rattle.gptp_reading.proofs.readings.worlds_have_readings.Goals as goal

pub returns : goal.returns
returns g c = worlds_have_readings g.F.Fate.answers
