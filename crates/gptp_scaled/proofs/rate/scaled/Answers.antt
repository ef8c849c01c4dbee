use Rattle.std.proofs.Common.{◌-◌, ◌^◌, ◌<◌, unsigned_abs, arith, subst, sym}
use Rattle.std.proofs.lemmas.Int.{ints}
use Rattle.gptp_scaled.proofs.MachineLemmas.{scaled_back, scaled_small}
use Rattle.gptp_scaled.proofs.ProductLemmas.{IsWithin}
use Rattle.gptp_scaled.proofs.rate.scaled.Goals as goal

-- the span is that between two times
spans : (c : goal.After-from) → IsWithin (2 ^ 96 - 1) c.args.x
spans c =
    let low = c.requires.low in
    let high = c.requires.high in
    record { low = omega (arith, ints); high = omega (arith, ints) }

pub returns : goal.returns
returns c =
    let is = scaled_back c.args.q c.args.x c.from.result c.ranges.q (spans c) c.from.ensures in
    record {
      is = is;
      small = subst (λ z. unsigned_abs z < 2 ^ 97) (sym is) (scaled_small c.args.q c.args.x c.ranges.q (spans c));
    }
