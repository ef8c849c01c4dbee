use Rattle.gptp_invariants.proofs.FailedSilentLemmas.{silence_goes_on, silence_kept}
use Rattle.gptp_invariants.proofs.failed_silence.silence_goes_on.Goals as goal

pub returns-clause-acts : goal.returns-clause-acts
returns-clause-acts c = silence_kept

pub returns-clause-later : goal.returns-clause-later
returns-clause-later c = silence_goes_on
