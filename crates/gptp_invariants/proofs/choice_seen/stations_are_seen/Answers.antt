use Rattle.gptp_invariants.proofs.ChoicePlaceLemmas.{station_there}
use Rattle.gptp_invariants.proofs.choice_seen.stations_are_seen.Goals as goal

pub returns : goal.returns
returns c = λ w place station here. station_there w.stations place station here
