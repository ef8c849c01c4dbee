use Rattle.gptp_reading.proofs.ExactLemmas.{worlds_read_exactly}
use Rattle.gptp_reading.proofs.readings.worlds_read_exactly.Goals as goal

pub returns : goal.returns
returns g c = worlds_read_exactly g.F.Fate.answers
