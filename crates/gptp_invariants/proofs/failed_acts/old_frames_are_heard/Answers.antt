use Rattle.std.proofs.Common.{refl}
use Rattle.gptp_invariants.specs.DelayLinkView.{other_direction}
use Rattle.gptp_invariants.proofs.FailedUnansweredDeliveryLemmas.{asker_hears_seen}
use Rattle.gptp_invariants.proofs.failed_acts.old_frames_are_heard.Goals as goal

pub returns : goal.returns
returns c = λ at gone octets w w' draws answer l sound measured old k.
    asker_hears_seen gone at at.link (other_direction at.direction) octets w draws answer w' k sound measured l old
    (refl, refl)
