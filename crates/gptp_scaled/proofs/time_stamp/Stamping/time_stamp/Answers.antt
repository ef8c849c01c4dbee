use Rattle.std.proofs.Common.{OkIff, ap, arith, subst, ◌∙◌}
use Rattle.std.specs.Int.{w32, w128}
use Rattle.std.proofs.lemmas.Int.{ints, to_z-of_z}
use Rattle.gptp_scaled.specs.ScaledNs.{FitsScaled}
use Rattle.gptp_scaled.specs.TimeStamp.{stamp_of, time_stamp}
use Rattle.gptp_scaled.proofs.time_stamp.Stamping.time_stamp.Goals as goal

pub returns : goal.returns
unfolding time_stamp
returns c =
    let few = c.noise_at.type_inv in
    let fits = c.stamp_of.type_inv in
    let noise = to_z-of_z w32 c.noise_at.result (omega (arith, ints)) ∙ c.noise_at.ensures in
    subst (λ v. OkIff c.new.result (FitsScaled v) v)
    (to_z-of_z w128 c.stamp_of.result (omega (arith, ints)) ∙ c.stamp_of.ensures
    ∙ ap (λ z. stamp_of c.args.self.now.granularity z c.args.shown) noise)
    c.new.ensures
