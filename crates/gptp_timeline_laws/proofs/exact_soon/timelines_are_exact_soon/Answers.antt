use Rattle.gptp_timeline_laws.proofs.ExactSoonLemmas as soon
use Rattle.gptp_timeline_laws.proofs.exact_soon.timelines_are_exact_soon.Goals as goal

pub returns : goal.returns
returns g c = soon.timelines_are_exact_soon g.F.Fate.answers
