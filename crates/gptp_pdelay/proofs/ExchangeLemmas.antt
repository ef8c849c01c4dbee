use Rattle.std.proofs.Common.{◌+◌, ◌^◌, ℤ, pos, neg_ℤ, ◌-ℤ◌, ◌*ℤ◌, ◌≤ℤ◌, int_lt, if◌then◌else◌, Bool, true, false, None, Some, arith}
use Rattle.std.proofs.lemmas.Int.{ints, clamps}
use Rattle.gptp_scaled.specs.Rate.{IsNeighborRate, clamped, scaled_by, unit}
use Rattle.gptp_scaled.specs.Floor.{floor_div}
use Rattle.gptp_scaled.specs.ScaledNs.{FitsScaled}
use Rattle.gptp_scaled.proofs.LawProofs.{neighbor_rate_is_near}
use Rattle.gptp_pdelay.specs.Clock.{IsTime}
use Rattle.gptp_pdelay.specs.Exchange.{IsCarriedTime, NeighborRateIsWithin}

-- the time between two times of a clock fits
pub times_apart : (a b : ℤ) → IsTime a → IsTime b → FitsScaled (b -ℤ a)
times_apart a b f g = record { low = omega (arith, ints, f.high, g.low); high = omega (arith, ints, f.low, g.high) }

-- what passed between two times of the requester's clock is little more at the responder's rate
record IsLittleMore (q x : ℤ) : Type 0 where
  low : neg_ℤ (pos (2 ^ 90 + 2 ^ 78)) ≤ℤ scaled_by q x
  high : scaled_by q x ≤ℤ pos (2 ^ 90 + 2 ^ 78)

little_more : (q a b : ℤ) → IsNeighborRate q → IsTime a → IsTime b → IsLittleMore q (b -ℤ a)
little_more q a b w f g =
    let near = neighbor_rate_is_near.scaled q (b -ℤ a) w in
    record {
      low = omega (arith, ints, near, f.low, f.high, g.low, g.high);
      high = omega (arith, ints, near, f.low, f.high, g.low, g.high);
    }

-- it fits
pub scaled_fits : (q a b : ℤ) → IsNeighborRate q → IsTime a → IsTime b → FitsScaled (scaled_by q (b -ℤ a))
scaled_fits q a b w f g =
    let m = little_more q a b w f g in
    record { low = omega (arith, ints, m.low); high = omega (arith, ints, m.high) }

-- and so does its difference from what passed between two times that messages carried
pub twice_fits : (q a b s t : ℤ) → IsNeighborRate q → IsTime a → IsTime b → IsCarriedTime s → IsCarriedTime t
    → FitsScaled (scaled_by q (b -ℤ a) -ℤ (t -ℤ s))
twice_fits q a b s t w f g h k =
    let m = little_more q a b w f g in
    record {
      low = omega (arith, ints, m.low, h.low, h.high, k.low, k.high);
      high = omega (arith, ints, m.high, h.low, h.high, k.low, k.high);
    }

-- the number within the limit that is nearest to another is within it, and so is 0
is_within : (t : Bool) (z : ℤ) → IsNeighborRate (if t then clamped z else pos 0)
is_within true z = record { low = omega (arith, ints, clamps); high = omega (arith, ints, clamps) }
is_within false z = record { low = omega (arith, ints); high = omega (arith, ints) }

-- a neighbour rate is one of them
pub neighbor_rate_is_within : NeighborRateIsWithin
neighbor_rate_is_within None t3 t4 = is_within false (pos 0)
neighbor_rate_is_within (Some since) t3 t4 =
    let e3 = t3 -ℤ since.t3 in
    let e4 = t4 -ℤ since.t4 in
    is_within (int_lt (pos 0) e4) (floor_div ((e3 -ℤ e4) *ℤ unit) e4)
