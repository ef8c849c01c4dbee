use Rattle.gptp_invariants.proofs.FailedUnansweredDeliveryLemmas.{delivers_seen}
use Rattle.gptp_invariants.proofs.failed_acts.deliveries_are_acts.Goals as goal

pub returns : goal.returns
returns c = λ at gone link direction octets w w' draws answer l sound measured old k.
    delivers_seen gone at link direction octets w draws answer w' k sound measured l old
