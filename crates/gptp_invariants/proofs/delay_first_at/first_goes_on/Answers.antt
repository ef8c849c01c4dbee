use Rattle.gptp_invariants.proofs.DelayFirstAtLemmas.{first_goes_on, first_goes_through}
use Rattle.gptp_invariants.proofs.delay_first_at.first_goes_on.Goals as goal

pub returns-clause-acts : goal.returns-clause-acts
returns-clause-acts c = first_goes_through

pub returns-clause-later : goal.returns-clause-later
returns-clause-later c = first_goes_on
