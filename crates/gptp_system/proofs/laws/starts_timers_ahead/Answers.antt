use Rattle.gptp_system.proofs.StartedLemmas.{ran_out_later, started_later}
use Rattle.gptp_system.proofs.laws.starts_timers_ahead.Goals as goal

pub returns-clause-started : goal.returns-clause-started
returns-clause-started c = started_later

pub returns-clause-ran_out : goal.returns-clause-ran_out
returns-clause-ran_out c = ran_out_later
