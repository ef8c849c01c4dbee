use Rattle.gptp_invariants.proofs.ChoiceSeenDeliveryLemmas.{delivers_seen}
use Rattle.gptp_invariants.proofs.choice_seen.deliveries_are_seen.Goals as goal

pub returns : goal.returns
returns c = delivers_seen
