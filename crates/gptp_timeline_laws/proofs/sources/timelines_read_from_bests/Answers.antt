use Rattle.gptp_timeline_laws.proofs.BestLemmas as bests
use Rattle.gptp_timeline_laws.proofs.sources.timelines_read_from_bests.Goals as goal

pub returns : goal.returns
returns g c = bests.timelines_read_from_bests g.F.Fate.answers
