use Rattle.gptp_bmca_machine.proofs.TimesLemmas.{times_fit}
use Rattle.gptp_bmca_machine.proofs.network.networks_are_timed.Goals as goal

pub returns : goal.returns
returns c = times_fit
