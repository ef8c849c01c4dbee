use Rattle.gptp_scaled.proofs.MachineLemmas.{unscaled_fits, unscaled_back}
use Rattle.gptp_scaled.proofs.rate.unscaled.Goals as goal

pub overflow_add-result : goal.overflow_add-result
overflow_add-result c =
    unscaled_fits c.args.q c.args.x c.from-q.result c.div_euclid.result c.ranges.q c.requires c.from-q.ensures
    c.div_euclid.ensures

pub returns : goal.returns
returns c = unscaled_back c.args.q c.args.x c.from-q.result c.div_euclid.result c.ranges.q c.requires c.from-q.ensures
    c.div_euclid.ensures
