use Rattle.gptp_settling_time.proofs.UnchangedLemmas.{acts_leave_choice}
use Rattle.gptp_settling_time.proofs.unchanged.acts_leave_choice.Goals as goal

pub returns : goal.returns
returns g c = acts_leave_choice g.F.Fate.answers
