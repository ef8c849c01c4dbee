use Rattle.gptp_pdelay.proofs.LateLemmas.{late_is_below}
use Rattle.gptp_pdelay.proofs.laws.late_is_below.Goals as goal

pub returns : goal.returns
returns c = late_is_below
