use Rattle.gptp_pdelay_machine.proofs.MeasuredLemmas.{runs_end_measured}
use Rattle.gptp_pdelay_machine.proofs.measured.runs_end_measured.Goals as goal

pub returns : goal.returns
returns g c = λ k least. runs_end_measured k least g.C.Coding.asks g.C.Coding.replies
