use Rattle.gptp_reading.proofs.HeardLemmas.{runs_hear_in_time}
use Rattle.gptp_reading.proofs.age.runs_hear_in_time.Goals as goal

pub returns : goal.returns
returns g c = runs_hear_in_time g.F.Fate.answers
