use Rattle.gptp_system.proofs.MeasureLemmas.{steps_measure}
use Rattle.gptp_system.proofs.laws.measures_port_by_port.Goals as goal

pub returns : goal.returns
returns c = steps_measure
