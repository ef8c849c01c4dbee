-- Time that passes, and every act between two changes, seen at a port whose link's other end has failed.
use Rattle.std.proofs.Common.{refl}
use Rattle.gptp_scenario.specs.declared.change.Act.TheVariants.{Deliver, Expire, Change as Changing}
use Rattle.gptp_invariants.specs.FailedUnansweredLaws.{SilentActsAreActs, SilentTimePasses}
use Rattle.gptp_invariants.proofs.FailedUnansweredDeliveryLemmas.{delivers_seen}
use Rattle.gptp_invariants.proofs.FailedUnansweredExpiryLemmas.{expires_seen}

pub passes_seen : SilentTimePasses
passes_seen at gone time w l later old = record { after = l; settled = refl; old = old; so = (time, later, refl) }

pub acts_seen : SilentActsAreActs
acts_seen at gone (Deliver link direction) w w' draws done l sound measured old calm k =
    delivers_seen gone at link direction k.octets w draws k.answer w' k.delivers sound measured l old
acts_seen at gone (Expire number timer) w w' draws done l sound measured old calm k =
    expires_seen gone at k.1.place timer w draws w' k.1.so sound l old
acts_seen at gone (Changing change) w w' draws done l sound measured old calm k = absurd (calm change refl)
