use Rattle.gptp_invariants.proofs.ChoiceSeenExpiryLemmas.{expires_seen}
use Rattle.gptp_invariants.proofs.choice_seen.expiries_are_seen.Goals as goal

pub returns : goal.returns
returns c = expires_seen
