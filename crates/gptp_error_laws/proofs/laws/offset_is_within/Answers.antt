use Rattle.gptp_error_laws.proofs.HopLemmas.{offset_is_within}
use Rattle.gptp_error_laws.proofs.laws.offset_is_within.Goals as goal

pub returns : goal.returns
returns c = offset_is_within
