use Rattle.gptp_pdelay_machine.proofs.CapabilityLemmas.{capable_from_calm}
use Rattle.gptp_pdelay_machine.proofs.capability.capable_from_calm.Goals as goal

pub returns : goal.returns
returns g c = λ k. capable_from_calm k g.C.Coding.asks g.C.Coding.replies
