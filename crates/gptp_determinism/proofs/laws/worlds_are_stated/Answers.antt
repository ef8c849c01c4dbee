use Rattle.gptp_determinism.proofs.StatedExistLemmas.{states_exist}
use Rattle.gptp_determinism.proofs.laws.worlds_are_stated.Goals as goal

pub returns : goal.returns
returns c = states_exist
