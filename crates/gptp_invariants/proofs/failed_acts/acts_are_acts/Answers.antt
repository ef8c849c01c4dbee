use Rattle.gptp_invariants.proofs.FailedUnansweredActLemmas.{acts_seen}
use Rattle.gptp_invariants.proofs.failed_acts.acts_are_acts.Goals as goal

pub returns : goal.returns
returns c = acts_seen
