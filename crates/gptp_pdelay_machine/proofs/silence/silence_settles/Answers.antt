use Rattle.gptp_pdelay_machine.proofs.SilenceLemmas.{silence_settles}
use Rattle.gptp_pdelay_machine.proofs.silence.silence_settles.Goals as goal

pub returns : goal.returns
returns c = silence_settles
