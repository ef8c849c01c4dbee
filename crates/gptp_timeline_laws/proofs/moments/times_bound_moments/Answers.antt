use Rattle.gptp_timeline_laws.proofs.MomentLemmas as moments
use Rattle.gptp_timeline_laws.proofs.moments.times_bound_moments.Goals as goal

pub returns : goal.returns
returns g c = moments.times_bound_moments g.F.Fate.answers
