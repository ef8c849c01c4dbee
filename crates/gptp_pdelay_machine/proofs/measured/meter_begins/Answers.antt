use Rattle.gptp_pdelay_machine.proofs.MeasuredLemmas.{meter_begins}
use Rattle.gptp_pdelay_machine.proofs.measured.meter_begins.Goals as goal

pub returns : goal.returns
returns g c = λ k least. meter_begins k least g.C.Coding.asks g.C.Coding.replies
