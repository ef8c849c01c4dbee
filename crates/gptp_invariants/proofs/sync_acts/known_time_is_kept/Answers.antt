use Rattle.gptp_invariants.proofs.SyncTimeStepLemmas.{knows_on}
use Rattle.gptp_invariants.proofs.sync_acts.known_time_is_kept.Goals as goal

pub returns-clause-steps : goal.returns-clause-steps
returns-clause-steps c = knows_on
