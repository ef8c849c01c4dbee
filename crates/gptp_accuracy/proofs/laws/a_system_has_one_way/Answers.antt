use Rattle.gptp_accuracy.proofs.WayLemmas.{one_way}
use Rattle.gptp_accuracy.proofs.laws.a_system_has_one_way.Goals as goal

pub returns : goal.returns
returns c = one_way
