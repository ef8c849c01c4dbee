use Rattle.gptp_timeline_laws.proofs.ReadSoonLemmas as soon
use Rattle.gptp_timeline_laws.proofs.exact_soon.timelines_read_exactly_soon.Goals as goal

pub returns : goal.returns
returns g c = soon.timelines_read_exactly_soon g.F.Fate.answers
