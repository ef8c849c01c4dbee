use Rattle.gptp_reading.proofs.HeldLemmas.{held_is_read}
use Rattle.gptp_reading.proofs.laws.held_is_read.Goals as goal

pub returns : goal.returns
returns c = held_is_read
