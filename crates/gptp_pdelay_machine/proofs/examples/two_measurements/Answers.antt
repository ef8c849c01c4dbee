use Rattle.gptp_pdelay_machine.proofs.MeterExampleLemmas
use Rattle.gptp_pdelay_machine.proofs.examples.two_measurements.Goals as goal

pub returns : goal.returns
returns c = MeterExampleLemmas.two_measurements
