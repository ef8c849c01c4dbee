use Rattle.gptp_invariants.proofs.ChoiceSeenLaneLemmas.{lane_there}
use Rattle.gptp_invariants.proofs.choice_seen.lanes_are_seen.Goals as goal

pub returns : goal.returns
returns c = λ w link direction channel here. lane_there w.net.channels link direction channel here
