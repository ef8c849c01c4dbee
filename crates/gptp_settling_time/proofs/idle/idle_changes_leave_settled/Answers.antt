use Rattle.gptp_settling_time.proofs.IdleLemmas.{idles_stay_news, idles_stay_settled}
use Rattle.gptp_settling_time.proofs.idle.idle_changes_leave_settled.Goals as goal

pub returns-clause-news : goal.returns-clause-news
returns-clause-news g c = idles_stay_news g.F.Fate.answers

pub returns-clause-settled : goal.returns-clause-settled
returns-clause-settled g c = idles_stay_settled g.F.Fate.answers
