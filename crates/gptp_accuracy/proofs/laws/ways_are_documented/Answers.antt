use Rattle.gptp_accuracy.proofs.WayLemmas.{ways_are_documented}
use Rattle.gptp_accuracy.proofs.laws.ways_are_documented.Goals as goal

pub returns : goal.returns
returns c = ways_are_documented
