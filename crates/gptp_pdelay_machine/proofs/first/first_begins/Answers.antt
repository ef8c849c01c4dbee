use Rattle.gptp_pdelay_machine.proofs.FirstLemmas.{first_begins}
use Rattle.gptp_pdelay_machine.proofs.first.first_begins.Goals as goal

pub returns : goal.returns
returns g c = λ k least. first_begins k least g.C.Coding.asks g.C.Coding.replies
