use Rattle.gptp_timeline_laws.proofs.RootLemmas as roots
use Rattle.gptp_timeline_laws.proofs.sources.timelines_read_from_roots.Goals as goal

pub returns : goal.returns
returns g c = roots.timelines_read_from_roots g.F.Fate.answers
