use Rattle.gptp_error_laws.proofs.WayLemmas.{carry_is_within}
use Rattle.gptp_error_laws.proofs.laws.carry_is_within.Goals as goal

pub returns : goal.returns
returns c = carry_is_within
