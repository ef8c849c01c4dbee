use Rattle.gptp_bmca_machine.proofs.LossLemmas.{fits_kept}
use Rattle.gptp_bmca_machine.proofs.loss.fits_stays.Goals as goal

pub returns : goal.returns
returns g c = λ s n w w' left. fits_kept g.C.Coding.says s n left w w'
