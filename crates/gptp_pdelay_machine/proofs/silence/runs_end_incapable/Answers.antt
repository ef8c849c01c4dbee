use Rattle.gptp_pdelay_machine.proofs.SilenceLemmas
use Rattle.gptp_pdelay_machine.proofs.silence.runs_end_incapable.Goals as goal

pub returns : goal.returns
returns c = SilenceLemmas.runs_end_incapable
