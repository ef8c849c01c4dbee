use Rattle.gptp_invariants.proofs.FailedUnansweredWorldLemmas.{silent_incapable}
use Rattle.gptp_invariants.proofs.failed_silence.silent_ports_become_incapable.Goals as goal

pub returns : goal.returns
returns c = silent_incapable
