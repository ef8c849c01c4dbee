use Rattle.gptp_error_laws.proofs.LinkLemmas.{link_time_is_above}
use Rattle.gptp_error_laws.proofs.laws.link_time_is_above.Goals as goal

pub returns : goal.returns
returns c = link_time_is_above
