use Rattle.gptp_pdelay_machine.proofs.MeasuredLemmas.{measuring_settles}
use Rattle.gptp_pdelay_machine.proofs.measured.measuring_settles.Goals as goal

pub returns : goal.returns
returns g c = λ k least. measuring_settles k least g.C.Coding.asks g.C.Coding.replies
