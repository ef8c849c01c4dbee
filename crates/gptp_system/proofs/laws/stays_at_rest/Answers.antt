use Rattle.gptp_system.proofs.FactLemmas.{selects_rest}
use Rattle.gptp_system.proofs.RestLemmas.{selects_again}
use Rattle.gptp_system.proofs.StepLemmas.{steps_sound}
use Rattle.gptp_system.proofs.laws.stays_at_rest.Goals as goal

pub returns-clause-rest : goal.returns-clause-rest
returns-clause-rest c =
    λ input now s s' sends answer held rest k. (steps_sound input now s s' sends answer k).rest held rest

pub returns-clause-selects : goal.returns-clause-selects
returns-clause-selects c = λ now s s' sends held k. selects_rest now s s' sends held k

pub returns-clause-again : goal.returns-clause-again
returns-clause-again c = selects_again
