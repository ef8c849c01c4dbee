use Rattle.gptp_invariants.proofs.FailedUnansweredStandLemmas.{timers_known}
use Rattle.gptp_invariants.proofs.failed_worlds.timers_are_known.Goals as goal

pub returns : goal.returns
returns c = timers_known
