use Rattle.gptp_bmca_machine.proofs.LinkLemmas.{link_kept}
use Rattle.gptp_bmca_machine.proofs.link.link_stays_at_a_stage.Goals as goal

pub returns : goal.returns
returns g c = link_kept g.C.Coding.says
