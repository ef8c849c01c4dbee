use Rattle.gptp_settling_time.proofs.InTurnLemmas.{acts_find_settled_in_turn}
use Rattle.gptp_settling_time.proofs.in_turn.documents_settle_in_turn.Goals as goal

pub returns : goal.returns
returns g c = acts_find_settled_in_turn g.F.Fate.answers
