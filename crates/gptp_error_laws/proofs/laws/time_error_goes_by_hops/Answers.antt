use Rattle.gptp_error_laws.proofs.WayLemmas.{time_error_goes_by_hops}
use Rattle.gptp_error_laws.proofs.laws.time_error_goes_by_hops.Goals as goal

pub returns : goal.returns
returns c = time_error_goes_by_hops
