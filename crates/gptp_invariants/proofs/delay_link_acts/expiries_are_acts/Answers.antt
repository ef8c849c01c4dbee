use Rattle.gptp_invariants.proofs.DelayLinkExpiryLemmas.{expires_seen}
use Rattle.gptp_invariants.proofs.delay_link_acts.expiries_are_acts.Goals as goal

pub returns : goal.returns
returns c = λ at place timer w w' draws l sound k. expires_seen at place timer w draws w' k sound l
