use Rattle.std.proofs.Common.{arith}
use Rattle.std.proofs.lemmas.Int.{ints}
use Rattle.gptp_scaled.proofs.MachineLemmas.{neighbor_back}
use Rattle.gptp_scaled.proofs.rate.neighbor_rate.Goals as goal

pub returns-else-gain-elapsed-2 : goal.returns-else-gain-elapsed-2
returns-else-gain-elapsed-2 c =
    neighbor_back c.args.gain c.args.elapsed c.div_euclid.result c.clamp.result c.requires.positive c.requires.fits
    (omega (arith, ints)) (omega (arith, ints))
    c.div_euclid.ensures c.clamp.ensures.value
