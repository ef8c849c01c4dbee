use Rattle.gptp_system.proofs.ReachLemmas.{steps_reach}
use Rattle.gptp_system.proofs.laws.stays_within_reach.Goals as goal

pub returns-clause-sends : goal.returns-clause-sends
returns-clause-sends c = λ input now s s' sends answer k. (steps_reach input now s s' sends answer k).within

pub returns-clause-timers : goal.returns-clause-timers
returns-clause-timers c = λ input now s s' sends answer k. (steps_reach input now s s' sends answer k).leaves
