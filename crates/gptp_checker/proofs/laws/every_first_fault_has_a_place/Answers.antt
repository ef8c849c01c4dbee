use Rattle.gptp_checker.proofs.PlacedLemmas.{place_exists}
use Rattle.gptp_checker.proofs.laws.every_first_fault_has_a_place.Goals as goal

pub returns : goal.returns
returns c = place_exists
