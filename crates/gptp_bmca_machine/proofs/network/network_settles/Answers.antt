use Rattle.gptp_bmca_machine.proofs.SettledLemmas.{network_settles}
use Rattle.gptp_bmca_machine.proofs.network.network_settles.Goals as goal

pub returns : goal.returns
returns g c = network_settles g.C.Coding.says
