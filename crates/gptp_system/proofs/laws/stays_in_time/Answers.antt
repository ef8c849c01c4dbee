use Rattle.gptp_system.proofs.InTimeLemmas.{later_in_time, stays_in_time}
use Rattle.gptp_system.proofs.SpanLemmas.{due_within, starts_in_time}
use Rattle.gptp_system.proofs.TimeLemmas.{steps_run_on}
use Rattle.gptp_system.proofs.laws.stays_in_time.Goals as goal

pub returns-clause-steps : goal.returns-clause-steps
returns-clause-steps c = stays_in_time

pub returns-clause-later : goal.returns-clause-later
returns-clause-later c = later_in_time

pub returns-clause-system : goal.returns-clause-system
returns-clause-system c = steps_run_on

pub returns-clause-start : goal.returns-clause-start
returns-clause-start c = starts_in_time

pub returns-clause-span : goal.returns-clause-span
returns-clause-span c = due_within
