use Rattle.gptp_bmca_machine.proofs.SelectedLemmas.{selection_kept}
use Rattle.gptp_bmca_machine.proofs.held.ports_stay_selected.Goals as goal

pub returns : goal.returns
returns g c = selection_kept g.C.Coding.says
