use Rattle.gptp_pdelay_machine.proofs.FirstLemmas.{stays_capable}
use Rattle.gptp_pdelay_machine.proofs.first.stays_capable.Goals as goal

pub returns : goal.returns
returns g c = λ k least. stays_capable k least g.C.Coding.asks g.C.Coding.replies
