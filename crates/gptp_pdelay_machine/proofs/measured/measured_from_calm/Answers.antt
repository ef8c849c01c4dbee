use Rattle.gptp_pdelay_machine.proofs.MeasuredLemmas.{measured_from_calm}
use Rattle.gptp_pdelay_machine.proofs.measured.measured_from_calm.Goals as goal

pub returns : goal.returns
returns g c = λ k least. measured_from_calm k least g.C.Coding.asks g.C.Coding.replies
