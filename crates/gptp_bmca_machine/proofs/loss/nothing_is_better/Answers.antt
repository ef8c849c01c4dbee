use Rattle.gptp_bmca_machine.proofs.LossLemmas.{nothing_better}
use Rattle.gptp_bmca_machine.proofs.loss.nothing_is_better.Goals as goal

pub returns : goal.returns
returns g c = λ s n w i m best left. nothing_better g.C.Coding.says s n left w i m best
