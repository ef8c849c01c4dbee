use Rattle.gptp_pdelay.proofs.ExchangeLemmas.{times_apart, scaled_fits, twice_fits}
use Rattle.gptp_pdelay.proofs.exchange.Measurement.of.Goals as goal

pub elapsed-requires : goal.elapsed-requires
elapsed-requires c = times_apart _ _ c.requires.t1 c.requires.t4

pub mean_delay-delay-requires-clause-scaled : goal.mean_delay-delay-requires-clause-scaled
mean_delay-delay-requires-clause-scaled c =
    rw c.elapsed.ensures (scaled_fits _ _ _ c.neighbor_rate-rate.ensures.within c.requires.t1 c.requires.t4)

pub mean_delay-delay-requires-clause-twice : goal.mean_delay-delay-requires-clause-twice
mean_delay-delay-requires-clause-twice c =
    rw (c.elapsed.ensures, c.elapsed-2.ensures)
    (twice_fits _ _ _ _ _ c.neighbor_rate-rate.ensures.within c.requires.t1 c.requires.t4 c.requires.t2 c.requires.t3)
