use Rattle.gptp_timeline.proofs.SettlingLemmas as settling
use Rattle.gptp_timeline.proofs.laws.stretches_settle.Goals as goal

pub returns : goal.returns
returns g c = settling.stretches_settle g.F.Fate.answers
