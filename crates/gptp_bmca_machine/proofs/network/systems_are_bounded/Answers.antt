use Rattle.gptp_bmca_machine.proofs.SettledLemmas.{systems_bounded}
use Rattle.gptp_bmca_machine.proofs.network.systems_are_bounded.Goals as goal

pub returns : goal.returns
returns g c = systems_bounded g.C.Coding.says
