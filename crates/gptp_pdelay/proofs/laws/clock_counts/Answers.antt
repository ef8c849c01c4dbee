use Rattle.gptp_pdelay.proofs.MeasurementLemmas.{clock_counts}
use Rattle.gptp_pdelay.proofs.laws.clock_counts.Goals as goal

pub returns : goal.returns
returns c = clock_counts
