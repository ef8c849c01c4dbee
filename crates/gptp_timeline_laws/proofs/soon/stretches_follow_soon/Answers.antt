use Rattle.gptp_timeline_laws.proofs.RootsSoonLemmas.{stretches_follow_soon}
use Rattle.gptp_timeline_laws.proofs.soon.stretches_follow_soon.Goals as goal

pub returns : goal.returns
returns g c = stretches_follow_soon g.F.Fate.answers
