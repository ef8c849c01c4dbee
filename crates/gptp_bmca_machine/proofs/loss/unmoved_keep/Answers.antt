use Rattle.gptp_bmca_machine.proofs.StillLemmas.{unmoved_keep}
use Rattle.gptp_bmca_machine.proofs.loss.unmoved_keep.Goals as goal

pub returns : goal.returns
returns g c = unmoved_keep g.C.Coding.says
