use Rattle.gptp_bmca_machine.proofs.LossLemmas.{loss_fits}
use Rattle.gptp_bmca_machine.proofs.loss.loss_fits.Goals as goal

pub returns : goal.returns
returns g c = loss_fits g.C.Coding.says
