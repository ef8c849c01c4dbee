use Rattle.gptp_pdelay_machine.proofs.FirstLemmas.{first_later}
use Rattle.gptp_pdelay_machine.proofs.first.first_holds_later.Goals as goal

pub returns : goal.returns
returns g c = λ k least. first_later k least g.C.Coding.asks g.C.Coding.replies
