use Rattle.gptp_pdelay.proofs.CapabilityLemmas.{lost_stays_allowed}
use Rattle.gptp_pdelay.proofs.laws.lost_stays_allowed.Goals as goal

pub returns : goal.returns
returns c = lost_stays_allowed
