use Rattle.gptp_pdelay.proofs.MeasurementLemmas.{measurement_is_within}
use Rattle.gptp_pdelay.proofs.laws.measurement_is_within.Goals as goal

pub returns : goal.returns
returns c = measurement_is_within
