use Rattle.gptp_pdelay_machine.proofs.FirstLemmas.{measured_by}
use Rattle.gptp_pdelay_machine.proofs.first.measured_by.Goals as goal

pub returns : goal.returns
returns g c = λ k least. measured_by k least g.C.Coding.asks g.C.Coding.replies
