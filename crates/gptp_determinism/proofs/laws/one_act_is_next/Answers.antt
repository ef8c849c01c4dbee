use Rattle.gptp_determinism.proofs.CourseLemmas.{next_once}
use Rattle.gptp_determinism.proofs.laws.one_act_is_next.Goals as goal

pub returns : goal.returns
returns c = next_once
