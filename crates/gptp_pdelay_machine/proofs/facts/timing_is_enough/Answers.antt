use Rattle.gptp_pdelay_machine.proofs.FactLemmas
use Rattle.gptp_pdelay_machine.proofs.facts.timing_is_enough.Goals as goal

pub returns : goal.returns
returns c = FactLemmas.timing_is_enough
