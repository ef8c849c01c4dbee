use Rattle.gptp_timeline_laws.proofs.GapLemmas as gaps
use Rattle.gptp_timeline_laws.proofs.age.timelines_always_have_time.Goals as goal

pub returns : goal.returns
returns g c = gaps.timelines_always_have_time g.F.Fate.answers
