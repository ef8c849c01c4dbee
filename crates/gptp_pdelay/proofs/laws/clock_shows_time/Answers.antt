use Rattle.gptp_pdelay.proofs.ClockLemmas.{clock_shows_time}
use Rattle.gptp_pdelay.proofs.laws.clock_shows_time.Goals as goal

pub returns : goal.returns
returns c = clock_shows_time
