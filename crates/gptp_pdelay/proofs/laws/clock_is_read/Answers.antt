use Rattle.gptp_pdelay.proofs.ClockLemmas.{clock_is_read}
use Rattle.gptp_pdelay.proofs.laws.clock_is_read.Goals as goal

pub returns : goal.returns
returns c = clock_is_read
