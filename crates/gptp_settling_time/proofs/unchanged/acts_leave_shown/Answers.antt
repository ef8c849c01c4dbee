use Rattle.gptp_settling_time.proofs.UnchangedLemmas.{acts_leave_shown}
use Rattle.gptp_settling_time.proofs.unchanged.acts_leave_shown.Goals as goal

pub returns : goal.returns
returns g c = acts_leave_shown g.F.Fate.answers
