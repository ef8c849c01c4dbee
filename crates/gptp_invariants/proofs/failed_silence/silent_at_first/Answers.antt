use Rattle.gptp_invariants.proofs.FailedUnansweredWorldLemmas.{silent_at_first}
use Rattle.gptp_invariants.proofs.failed_silence.silent_at_first.Goals as goal

pub returns : goal.returns
returns c = silent_at_first
