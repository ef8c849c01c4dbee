use Rattle.gptp_system.proofs.StepLemmas.{steps_sound, steps_steady}
use Rattle.gptp_system.proofs.WindowLemmas.{steps_measure_over}
use Rattle.gptp_system.proofs.laws.keeps_its_setup.Goals as goal

pub returns-clause-keeps : goal.returns-clause-keeps
returns-clause-keeps c = λ input now s s' sends answer k. (steps_sound input now s s' sends answer k).kept

pub returns-clause-identity : goal.returns-clause-identity
returns-clause-identity c =
    λ input now s s' sends answer other k. (steps_steady input now s s' sends answer other k).identity

pub returns-clause-windows : goal.returns-clause-windows
returns-clause-windows c = steps_measure_over
