use Rattle.gptp_settling_time.proofs.ExactInTurnLemmas.{acts_are_exact_in_turn}
use Rattle.gptp_settling_time.proofs.exact_in_turn.documents_are_exact_in_turn.Goals as goal

pub returns : goal.returns
returns g c = acts_are_exact_in_turn g.F.Fate.answers
