use Rattle.gptp_settling_time.proofs.CutLemmas.{runs_begin_so}
use Rattle.gptp_settling_time.proofs.documents.runs_begin_so.Goals as goal

pub returns : goal.returns
returns g c = runs_begin_so g.F.Fate.answers
