use Rattle.gptp_invariants.proofs.WorldBeforeLemmas.{none_anew}
use Rattle.gptp_invariants.proofs.failed_silence.none_stands_anew.Goals as goal

pub returns : goal.returns
returns c = none_anew
