use Rattle.gptp_invariants.proofs.DelayLinkDeliveryLemmas.{delivers_seen}
use Rattle.gptp_invariants.proofs.delay_link_acts.deliveries_are_acts.Goals as goal

pub returns : goal.returns
returns c = λ at link direction octets w w' draws answer l sound k.
    delivers_seen link direction octets w draws answer w' k sound at l
