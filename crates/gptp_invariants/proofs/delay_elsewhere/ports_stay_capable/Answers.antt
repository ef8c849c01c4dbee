use Rattle.gptp_invariants.proofs.DelayElsewhereLemmas.{watched_stay_capable, watched_stay_measured}
use Rattle.gptp_invariants.proofs.delay_elsewhere.ports_stay_capable.Goals as goal

pub returns-clause-capable : goal.returns-clause-capable
returns-clause-capable c = watched_stay_capable

pub returns-clause-measured : goal.returns-clause-measured
returns-clause-measured c = watched_stay_measured
