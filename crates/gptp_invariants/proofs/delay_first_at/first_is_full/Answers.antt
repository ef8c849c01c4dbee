use Rattle.gptp_invariants.proofs.DelayFirstAtLemmas.{first_full, first_measured}
use Rattle.gptp_invariants.proofs.delay_first_at.first_is_full.Goals as goal

pub returns-clause-capable : goal.returns-clause-capable
returns-clause-capable c = first_full

pub returns-clause-measured : goal.returns-clause-measured
returns-clause-measured c = first_measured
