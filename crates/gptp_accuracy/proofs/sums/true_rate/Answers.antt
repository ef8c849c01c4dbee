use Rattle.gptp_pdelay.specs.Measured.{clock_rate}
use Rattle.gptp_pdelay.proofs.MeasurementLemmas.{clock_counts}
use Rattle.gptp_accuracy.proofs.MachineLemmas.{count_back, quotient_back}
use Rattle.gptp_accuracy.proofs.SumLemmas.{gain_high, gain_low}
use Rattle.gptp_accuracy.proofs.sums.true_rate.Goals as goal

pub returns-clause-rate : goal.returns-clause-rate
returns-clause-rate c =
    quotient_back (clock_rate c.args.clock) (clock_rate c.args.own) c.from.result c.from-count.result c.from-2.result
    c.div_euclid.result
    (clock_counts.rate c.args.clock c.requires.clock)
    (clock_counts.rate c.args.own c.requires.own)
    (count_back c.args.clock c.count_of-2.result c.from.result c.requires.clock c.count_of-2.ensures c.from.ensures)
    (count_back c.args.own c.count_of.result c.from-count.result c.requires.own c.count_of.ensures
    c.from-count.ensures)
    c.from-2.ensures c.div_euclid.ensures

pub returns-clause-low : goal.returns-clause-low
returns-clause-low c =
    rw (returns-clause-rate c) (gain_low (clock_rate c.args.clock) (clock_rate c.args.own)
    (clock_counts.rate c.args.clock c.requires.clock)
    (clock_counts.rate c.args.own c.requires.own))

pub returns-clause-high : goal.returns-clause-high
returns-clause-high c =
    rw (returns-clause-rate c) (gain_high (clock_rate c.args.clock) (clock_rate c.args.own)
    (clock_counts.rate c.args.clock c.requires.clock)
    (clock_counts.rate c.args.own c.requires.own))
