use Rattle.gptp_bmca_machine.proofs.LinkLemmas.{link_settled}
use Rattle.gptp_bmca_machine.proofs.link.link_becomes_settled.Goals as goal

pub returns : goal.returns
returns g c = link_settled g.C.Coding.says
