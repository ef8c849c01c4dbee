use Rattle.gptp_pdelay_machine.proofs.ExampleLemmas
use Rattle.gptp_pdelay_machine.proofs.examples.two_exchanges.Goals as goal

pub returns : goal.returns
returns c = ExampleLemmas.two_exchanges
