use Rattle.gptp_pdelay_machine.proofs.ExchangeLemmas
use Rattle.gptp_pdelay_machine.proofs.exchange.exchanges_show_neighbor.Goals as goal

pub returns : goal.returns
returns c = ExchangeLemmas.exchanges_show_neighbor
