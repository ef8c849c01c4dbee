use Rattle.gptp_bmca_machine.proofs.LossLemmas.{nothing_moved_settles}
use Rattle.gptp_bmca_machine.proofs.loss.nothing_moved_settles.Goals as goal

pub returns : goal.returns
returns g c = nothing_moved_settles g.C.Coding.says
