use Rattle.gptp_bmca_machine.proofs.HeldLemmas.{no_loop_taken}
use Rattle.gptp_bmca_machine.proofs.held.no_loop_is_taken.Goals as goal

pub returns : goal.returns
returns g c = no_loop_taken g.C.Coding.says
