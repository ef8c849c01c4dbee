use Rattle.gptp_pdelay.proofs.CapabilityLemmas.{capability_turns}
use Rattle.gptp_pdelay.proofs.laws.capability_turns.Goals as goal

pub returns : goal.returns
returns c = capability_turns
