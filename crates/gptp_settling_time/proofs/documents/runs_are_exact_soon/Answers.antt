use Rattle.gptp_settling_time.proofs.DocumentLemmas.{runs_are_exact_soon}
use Rattle.gptp_settling_time.proofs.documents.runs_are_exact_soon.Goals as goal

pub returns : goal.returns
returns g c = runs_are_exact_soon g.F.Fate.answers
