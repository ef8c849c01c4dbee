use Rattle.gptp_error_laws.proofs.LongerLemmas.{parents_error_stays}
use Rattle.gptp_error_laws.proofs.laws.parents_error_stays.Goals as goal

pub returns : goal.returns
returns c = parents_error_stays
