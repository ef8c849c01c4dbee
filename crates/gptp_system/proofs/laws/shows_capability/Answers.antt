use Rattle.gptp_system.proofs.StepLemmas.{steps_sound}
use Rattle.gptp_system.proofs.laws.shows_capability.Goals as goal

pub returns : goal.returns
returns c = λ input now s s' sends answer shown k. (steps_sound input now s s' sends answer k).shown shown
