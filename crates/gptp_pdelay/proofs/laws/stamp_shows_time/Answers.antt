use Rattle.gptp_pdelay.proofs.ClockLemmas.{stamp_shows_time}
use Rattle.gptp_pdelay.proofs.laws.stamp_shows_time.Goals as goal

pub returns : goal.returns
returns c = stamp_shows_time
