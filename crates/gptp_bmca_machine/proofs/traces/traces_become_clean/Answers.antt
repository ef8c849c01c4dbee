use Rattle.gptp_bmca_machine.proofs.CleanLemmas.{held_whole}
use Rattle.gptp_bmca_machine.proofs.traces.traces_become_clean.Goals as goal

pub returns : goal.returns
returns g c = held_whole g.C.Coding.says
