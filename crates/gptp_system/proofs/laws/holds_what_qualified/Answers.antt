use Rattle.gptp_system.proofs.FactLemmas.{are_placed}
use Rattle.gptp_system.proofs.StepLemmas.{steps_sound}
use Rattle.gptp_system.proofs.laws.holds_what_qualified.Goals as goal

pub returns-clause-held : goal.returns-clause-held
returns-clause-held c = λ input now s s' sends answer held k. (steps_sound input now s s' sends answer k).held held

pub returns-clause-placed : goal.returns-clause-placed
returns-clause-placed c = are_placed
