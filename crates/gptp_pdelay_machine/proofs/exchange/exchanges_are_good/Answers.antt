use Rattle.gptp_pdelay_machine.proofs.ExchangeLemmas
use Rattle.gptp_pdelay_machine.proofs.exchange.exchanges_are_good.Goals as goal

pub returns : goal.returns
returns c = ExchangeLemmas.exchanges_are_good
