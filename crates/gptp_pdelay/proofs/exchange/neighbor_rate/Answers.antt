use Rattle.gptp_pdelay.proofs.ExchangeLemmas.{times_apart}
use Rattle.gptp_pdelay.proofs.exchange.neighbor_rate.Goals as goal

pub elapsed-requires-in-Some : goal.elapsed-requires-in-Some
elapsed-requires-in-Some c = times_apart _ _ (c.requires.since c.in-Some.since c.in-Some.is).t4 c.requires.t4
