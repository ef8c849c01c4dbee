use Rattle.std.proofs.Common.{◌≡◌, ◌<◌, ◌^◌, ◌-ℤ◌, ◌∙◌, ap, subst, sym, unsigned_abs, arith}
use Rattle.std.specs.Int.{w32, w128}
use Rattle.std.proofs.lemmas.Int.{ints, to_z-of_z}
use Rattle.gptp_scaled.specs.Rate.{scaled_by}
use Rattle.gptp_scaled.proofs.MachineLemmas.{back}
use Rattle.gptp_scaled.proofs.rate.Rate.scale_between.Goals as goal

pub returns : goal.returns
returns c =
    let to_fits = c.value.ensures.fits in
    let from_fits = c.value-2.ensures.fits in
    let rate : back w32 c.self.inside.q ≡ c.args.self = to_z-of_z w32 c.self.inside.q c.self.invariant ∙ c.self.view_is in
    let to : back w128 c.value.result ≡ c.args.to =
    ap (back w128) c.value.ensures.value ∙ to_z-of_z w128 c.args.to (omega (arith, ints)) in
    let from : back w128 c.value-2.result ≡ c.args.from =
    ap (back w128) c.value-2.ensures.value ∙ to_z-of_z w128 c.args.from (omega (arith, ints)) in
    let passed : back w128 (c.args.to -ℤ c.args.from) ≡ c.args.to -ℤ c.args.from =
    to_z-of_z w128 (c.args.to -ℤ c.args.from) (omega (arith, ints)) in
    let is : c.scaled.result ≡ scaled_by c.args.self (c.args.to -ℤ c.args.from) =
    rw (to, from, passed, rate) at c.scaled.ensures.is in
    let small = c.scaled.type_inv in
    let same = to_z-of_z w128 c.scaled.result (omega (arith, ints)) in
    record {
      is = same ∙ is;
      small = subst (λ z. unsigned_abs z < 2 ^ 97) (sym same) c.scaled.ensures.small;
    }
