use Rattle.gptp_pdelay_machine.proofs.CapabilityLemmas.{no_request_is_lost}
use Rattle.gptp_pdelay_machine.proofs.capability.no_request_is_lost.Goals as goal

pub returns : goal.returns
returns g c = λ k. no_request_is_lost k g.C.Coding.asks g.C.Coding.replies
