use Rattle.gptp_error_laws.proofs.LinkLemmas.{stay_is_above}
use Rattle.gptp_error_laws.proofs.laws.stay_is_above.Goals as goal

pub returns : goal.returns
returns c = stay_is_above
