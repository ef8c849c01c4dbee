use Rattle.gptp_reading.proofs.LastingLemmas.{runs_read_in_time}
use Rattle.gptp_reading.proofs.readings.runs_read_in_time.Goals as goal

pub returns : goal.returns
returns g c = runs_read_in_time g.F.Fate.answers
