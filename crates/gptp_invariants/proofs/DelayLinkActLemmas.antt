-- Time that passes, and every act between two changes, seen at a link.
use Rattle.std.proofs.Common.{refl}
use Rattle.gptp_scenario.specs.declared.change.Act.TheVariants.{Deliver, Expire, Change as Changing}
use Rattle.gptp_invariants.specs.DelayLinkLaws.{ActsAreActs, TimePasses}
use Rattle.gptp_invariants.proofs.DelayLinkDeliveryLemmas.{delivers_seen}
use Rattle.gptp_invariants.proofs.DelayLinkExpiryLemmas.{expires_seen}

pub passes_seen : TimePasses
passes_seen at time w l later = record { after = l; settled = refl; bounds = refl; so = (time, later, refl) }

pub acts_seen : ActsAreActs
acts_seen at (Deliver link direction) w w' draws done l sound calm k =
    delivers_seen link direction k.octets w draws k.answer w' k.delivers sound at l
acts_seen at (Expire number timer) w w' draws done l sound calm k =
    expires_seen at k.1.place timer w draws w' k.1.so sound l
acts_seen at (Changing change) w w' draws done l sound calm k = absurd (calm change refl)
