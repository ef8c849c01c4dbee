use Rattle.gptp_pdelay_machine.proofs.FirstLemmas.{first_kept}
use Rattle.gptp_pdelay_machine.proofs.first.first_kept.Goals as goal

pub returns : goal.returns
returns g c = λ k least gone first. first_kept k least g.C.Coding.asks g.C.Coding.replies gone first
