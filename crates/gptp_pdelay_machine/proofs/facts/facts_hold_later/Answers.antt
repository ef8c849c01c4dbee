use Rattle.gptp_pdelay_machine.proofs.FactLemmas
use Rattle.gptp_pdelay_machine.proofs.facts.facts_hold_later.Goals as goal

pub returns : goal.returns
returns c = FactLemmas.facts_later
