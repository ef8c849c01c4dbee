use Rattle.gptp_pdelay_machine.proofs.CapabilityLemmas
use Rattle.gptp_pdelay_machine.proofs.capability.runs_end_capable.Goals as goal

pub returns : goal.returns
returns g c = CapabilityLemmas.runs_end_capable g.C.Coding.asks g.C.Coding.replies
