use Rattle.gptp_timeline_laws.proofs.AgeLemmas as ages
use Rattle.gptp_timeline_laws.proofs.age.timelines_hear_in_time.Goals as goal

pub returns : goal.returns
returns g c = ages.timelines_hear_in_time g.F.Fate.answers
