use Rattle.gptp_invariants.proofs.FailedUnansweredStandLemmas.{ports_seen}
use Rattle.gptp_invariants.proofs.failed_worlds.ports_are_seen.Goals as goal

pub returns : goal.returns
returns c = ports_seen
