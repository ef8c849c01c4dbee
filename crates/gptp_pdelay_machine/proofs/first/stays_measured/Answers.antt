use Rattle.gptp_pdelay_machine.proofs.FirstLemmas.{stays_measured}
use Rattle.gptp_pdelay_machine.proofs.first.stays_measured.Goals as goal

pub returns : goal.returns
returns g c = λ k least. stays_measured k least g.C.Coding.asks g.C.Coding.replies
