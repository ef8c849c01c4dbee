use Rattle.gptp_invariants.proofs.FailedUnansweredWorldLemmas.{silent_later, acts_leave_silent}
use Rattle.gptp_invariants.proofs.failed_silence.silent_later.Goals as goal

pub returns-clause-acts : goal.returns-clause-acts
returns-clause-acts c = acts_leave_silent

pub returns-clause-later : goal.returns-clause-later
returns-clause-later c = silent_later
