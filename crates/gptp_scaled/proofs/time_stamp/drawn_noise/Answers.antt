use Rattle.gptp_scaled.proofs.MachineLemmas.{drawn_back}
use Rattle.gptp_scaled.proofs.time_stamp.drawn_noise.Goals as goal

pub returns : goal.returns
returns c =
    drawn_back c.args.most_noise c.args.word c.from.result c.from-2.result c.ranges.most_noise.fits c.from.ensures
    c.from-2.ensures
