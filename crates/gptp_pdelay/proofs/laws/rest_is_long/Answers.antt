use Rattle.gptp_pdelay.proofs.MeasurementLemmas.{rest_is_long}
use Rattle.gptp_pdelay.proofs.laws.rest_is_long.Goals as goal

pub returns : goal.returns
returns c = rest_is_long
