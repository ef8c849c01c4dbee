use Rattle.gptp_reading.proofs.ExactLemmas.{worlds_leave_time}
use Rattle.gptp_reading.proofs.readings.worlds_leave_time.Goals as goal

pub returns : goal.returns
returns g c = worlds_leave_time g.F.Fate.answers
