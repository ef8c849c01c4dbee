use Rattle.gptp_invariants.proofs.FailedSilentLemmas.{become_incapable}
use Rattle.gptp_invariants.proofs.failed_silence.ports_become_incapable.Goals as goal

pub returns : goal.returns
returns c = become_incapable
