use Rattle.gptp_reading.proofs.AgeLemmas.{worlds_are_recent}
use Rattle.gptp_reading.proofs.age.worlds_are_recent.Goals as goal

pub returns : goal.returns
returns c = worlds_are_recent
