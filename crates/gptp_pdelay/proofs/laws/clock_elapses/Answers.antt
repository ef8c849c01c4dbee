use Rattle.gptp_pdelay.proofs.ClockLemmas.{clock_elapses}
use Rattle.gptp_pdelay.proofs.laws.clock_elapses.Goals as goal

pub returns : goal.returns
returns c = clock_elapses
