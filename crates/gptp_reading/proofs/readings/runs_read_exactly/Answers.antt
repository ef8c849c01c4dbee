use Rattle.gptp_reading.proofs.RunLemmas.{runs_read_exactly}
use Rattle.gptp_reading.proofs.readings.runs_read_exactly.Goals as goal

pub returns : goal.returns
returns g c = runs_read_exactly g.F.Fate.answers
