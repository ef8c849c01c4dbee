use Rattle.gptp_pdelay.proofs.ClockLemmas.{stamps_make_clock}
use Rattle.gptp_pdelay.proofs.laws.stamps_make_clock.Goals as goal

pub returns : goal.returns
returns c = stamps_make_clock
