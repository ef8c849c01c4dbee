use Rattle.gptp_timeline_laws.proofs.SourceLemmas as sources
use Rattle.gptp_timeline_laws.proofs.sources.timelines_keep_sources.Goals as goal

pub returns : goal.returns
returns g c = sources.timelines_keep_sources g.F.Fate.answers
