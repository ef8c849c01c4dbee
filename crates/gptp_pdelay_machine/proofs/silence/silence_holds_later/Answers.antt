use Rattle.gptp_pdelay_machine.proofs.SilenceLemmas.{unanswered_later}
use Rattle.gptp_pdelay_machine.proofs.silence.silence_holds_later.Goals as goal

pub returns : goal.returns
returns c = unanswered_later
