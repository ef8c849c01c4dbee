use Rattle.gptp_pdelay_machine.proofs.SilenceLemmas.{unanswered_begins}
use Rattle.gptp_pdelay_machine.proofs.silence.silence_begins.Goals as goal

pub returns : goal.returns
returns c = unanswered_begins
