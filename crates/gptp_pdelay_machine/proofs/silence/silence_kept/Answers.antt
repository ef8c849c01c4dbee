use Rattle.gptp_pdelay_machine.proofs.SilenceLemmas.{unanswered_kept}
use Rattle.gptp_pdelay_machine.proofs.silence.silence_kept.Goals as goal

pub returns : goal.returns
returns c = unanswered_kept
