use Rattle.gptp_settling_time.proofs.InTurnLemmas.{acts_find_choice_in_turn}
use Rattle.gptp_settling_time.proofs.in_turn.choice_stands_in_turn.Goals as goal

pub returns : goal.returns
returns g c = acts_find_choice_in_turn g.F.Fate.answers
