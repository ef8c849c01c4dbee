use Rattle.gptp_timeline_laws.proofs.SoonLemmas.{stretches_settle_soon}
use Rattle.gptp_timeline_laws.proofs.soon.stretches_settle_soon.Goals as goal

pub returns : goal.returns
returns g c = stretches_settle_soon g.F.Fate.answers
