use Rattle.gptp_pdelay_machine.proofs.MeasuredLemmas.{meter_kept}
use Rattle.gptp_pdelay_machine.proofs.measured.meter_kept.Goals as goal

pub returns : goal.returns
returns g c = λ k least. meter_kept k least g.C.Coding.asks g.C.Coding.replies
