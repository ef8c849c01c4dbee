use Rattle.gptp_pdelay.proofs.CapabilityLemmas.{capable_by_two_exchanges}
use Rattle.gptp_pdelay.proofs.laws.capable_by_two_exchanges.Goals as goal

pub returns : goal.returns
returns c = capable_by_two_exchanges
