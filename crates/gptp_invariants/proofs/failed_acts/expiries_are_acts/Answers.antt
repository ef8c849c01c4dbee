use Rattle.gptp_invariants.proofs.FailedUnansweredExpiryLemmas.{expires_seen}
use Rattle.gptp_invariants.proofs.failed_acts.expiries_are_acts.Goals as goal

pub returns : goal.returns
returns c = λ at gone place timer w w' draws l sound old k.
    expires_seen gone at place timer w draws w' k sound l old
