use Rattle.gptp_error_laws.proofs.WayLemmas.{offset_of_way_is_within}
use Rattle.gptp_error_laws.proofs.laws.offset_of_way_is_within.Goals as goal

pub returns : goal.returns
returns c = offset_of_way_is_within
