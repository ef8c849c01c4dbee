use Rattle.gptp_determinism.proofs.ContinuesLemmas.{starts_beside_time, steps_beside_time, timers_beside_time}
use Rattle.gptp_determinism.proofs.laws.continues_touches_time_alone.Goals as goal

pub returns-clause-steps : goal.returns-clause-steps
returns-clause-steps c = steps_beside_time

pub returns-clause-timers : goal.returns-clause-timers
returns-clause-timers c = timers_beside_time

pub returns-clause-starts : goal.returns-clause-starts
returns-clause-starts c = starts_beside_time
