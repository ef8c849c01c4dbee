use Rattle.gptp_pdelay_machine.proofs.MeasuredLemmas.{meter_is_inv}
use Rattle.gptp_pdelay_machine.proofs.measured.meter_is_invariant.Goals as goal

pub returns : goal.returns
returns g c = λ k least. meter_is_inv k least g.C.Coding.asks g.C.Coding.replies
