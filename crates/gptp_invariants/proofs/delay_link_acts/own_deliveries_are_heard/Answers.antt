use Rattle.std.proofs.Common.{refl}
use Rattle.gptp_invariants.specs.DelayLinkView.{other_direction}
use Rattle.gptp_invariants.proofs.DelayLinkDeliveryLemmas.{answerer_hears_seen, asker_hears_seen}
use Rattle.gptp_invariants.proofs.delay_link_acts.own_deliveries_are_heard.Goals as goal

pub returns-clause-answerers : goal.returns-clause-answerers
returns-clause-answerers c = λ at octets w w' draws answer l sound k.
    answerer_hears_seen at.link at.direction octets w draws answer w' k sound at l refl refl

pub returns-clause-askers : goal.returns-clause-askers
returns-clause-askers c = λ at octets w w' draws answer l sound k.
    asker_hears_seen at.link (other_direction at.direction) octets w draws answer w' k sound at l refl refl
