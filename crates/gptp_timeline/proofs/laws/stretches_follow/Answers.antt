use Rattle.gptp_timeline.proofs.FollowedLemmas as followed
use Rattle.gptp_timeline.proofs.laws.stretches_follow.Goals as goal

pub returns : goal.returns
returns g c = followed.stretches_follow g.F.Fate.answers
