use Rattle.gptp_invariants.proofs.FailedSilentLemmas.{silence_begins}
use Rattle.gptp_invariants.proofs.failed_silence.silence_begins.Goals as goal

pub returns : goal.returns
returns c = silence_begins
