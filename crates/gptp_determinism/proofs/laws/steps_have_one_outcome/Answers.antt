use Rattle.gptp_determinism.proofs.StepLemmas.{steps_once}
use Rattle.gptp_determinism.proofs.laws.steps_have_one_outcome.Goals as goal

pub returns : goal.returns
returns c = steps_once
