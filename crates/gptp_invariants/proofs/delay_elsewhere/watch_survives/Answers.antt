use Rattle.gptp_invariants.proofs.DelayElsewhereLemmas.{watch_goes_through, watch_survives}
use Rattle.gptp_invariants.proofs.delay_elsewhere.watch_survives.Goals as goal

pub returns-clause-changes : goal.returns-clause-changes
returns-clause-changes c = watch_survives

pub returns-clause-acts : goal.returns-clause-acts
returns-clause-acts c = watch_goes_through
