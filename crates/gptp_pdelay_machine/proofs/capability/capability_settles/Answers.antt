use Rattle.gptp_pdelay_machine.proofs.CapabilityLemmas.{capability_settles}
use Rattle.gptp_pdelay_machine.proofs.capability.capability_settles.Goals as goal

pub returns : goal.returns
returns g c = λ k. capability_settles k g.C.Coding.asks g.C.Coding.replies
