use Rattle.gptp_timeline_laws.proofs.GapLemmas as gaps
use Rattle.gptp_timeline_laws.proofs.age.timelines_are_always_exact.Goals as goal

pub returns : goal.returns
returns g c = gaps.timelines_are_always_exact g.F.Fate.answers
