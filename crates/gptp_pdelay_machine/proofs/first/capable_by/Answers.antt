use Rattle.gptp_pdelay_machine.proofs.FirstLemmas.{capable_by}
use Rattle.gptp_pdelay_machine.proofs.first.capable_by.Goals as goal

pub returns : goal.returns
returns g c = λ k least. capable_by k least g.C.Coding.asks g.C.Coding.replies
