use Rattle.gptp_bmca_machine.proofs.RunLemmas.{run_settles}
use Rattle.gptp_bmca_machine.proofs.runs.run_settles.Goals as goal

pub returns : goal.returns
returns g c = λ n w ws net late ready. run_settles g.C.Coding.says n net late ready w ws
