use Rattle.gptp_invariants.proofs.FailedUnansweredActLemmas.{passes_seen}
use Rattle.gptp_invariants.proofs.failed_acts.time_passes.Goals as goal

pub returns : goal.returns
returns c = passes_seen
