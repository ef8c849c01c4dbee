use Rattle.gptp_checker.proofs.OneLocationLemmas.{one_location}
use Rattle.gptp_checker.proofs.laws.a_fault_has_one_place.Goals as goal

pub returns : goal.returns
returns c = one_location
