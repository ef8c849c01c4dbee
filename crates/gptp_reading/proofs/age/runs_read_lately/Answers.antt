use Rattle.gptp_reading.proofs.LatelyLemmas.{runs_read_lately}
use Rattle.gptp_reading.proofs.age.runs_read_lately.Goals as goal

pub returns : goal.returns
returns g c = runs_read_lately g.F.Fate.answers
