use Rattle.gptp_system.proofs.TimeKeptLemmas.{goes_on, steps_make_of_time}
use Rattle.gptp_system.proofs.laws.goes_on_with_time.Goals as goal

pub returns-clause-kept : goal.returns-clause-kept
returns-clause-kept c = steps_make_of_time

pub returns-clause-tells : goal.returns-clause-tells
returns-clause-tells c = goes_on
