use Rattle.std.proofs.Common.{refl}
use Rattle.gptp_scaled.proofs.MachineLemmas.{stamped_back}
use Rattle.gptp_scaled.proofs.time_stamp.stamp_of.Goals as goal

pub returns : goal.returns
returns c =
    stamped_back c.args.granularity c.args.noise c.args.shown c.value.result c.from.result _ c.rounded.result
    c.max.result c.ranges.noise c.value.ensures.fits c.value.ensures.value c.from.ensures refl
    c.rounded.ensures.rounded c.rounded.ensures.small c.max.ensures.value
