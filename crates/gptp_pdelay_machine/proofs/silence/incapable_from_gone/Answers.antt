use Rattle.gptp_pdelay_machine.proofs.SilenceLemmas.{incapable_from_gone}
use Rattle.gptp_pdelay_machine.proofs.silence.incapable_from_gone.Goals as goal

pub returns : goal.returns
returns c = incapable_from_gone
