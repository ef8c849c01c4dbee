use Rattle.gptp_determinism.proofs.StepExistLemmas.{steps_exist}
use Rattle.gptp_determinism.proofs.laws.every_step_exists.Goals as goal

pub returns : goal.returns
returns c = steps_exist
