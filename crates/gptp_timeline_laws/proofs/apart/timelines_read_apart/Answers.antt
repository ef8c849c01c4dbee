use Rattle.gptp_timeline_laws.proofs.ApartLemmas as apart
use Rattle.gptp_timeline_laws.proofs.apart.timelines_read_apart.Goals as goal

pub returns : goal.returns
returns g c = apart.timelines_read_apart g.F.Fate.answers
