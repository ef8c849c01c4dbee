use Rattle.gptp_system.proofs.RestLemmas.{new_held, new_rest, new_shown}
use Rattle.gptp_system.proofs.laws.starts_at_rest.Goals as goal

pub returns : goal.returns
returns c = λ s k. (new_rest s k, new_shown s k, new_held s k)
