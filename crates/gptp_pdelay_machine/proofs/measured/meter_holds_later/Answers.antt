use Rattle.gptp_pdelay_machine.proofs.MeasuredLemmas.{meter_later}
use Rattle.gptp_pdelay_machine.proofs.measured.meter_holds_later.Goals as goal

pub returns : goal.returns
returns g c = λ k least. meter_later k least g.C.Coding.asks g.C.Coding.replies
