use Rattle.gptp_pdelay_machine.proofs.CapabilityLemmas.{no_exchange_is_bad}
use Rattle.gptp_pdelay_machine.proofs.capability.no_exchange_is_bad.Goals as goal

pub returns : goal.returns
returns g c = λ k. no_exchange_is_bad k g.C.Coding.asks g.C.Coding.replies
