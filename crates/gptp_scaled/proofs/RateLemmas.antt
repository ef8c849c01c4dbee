use Rattle.std.proofs.Common.{◌≡◌, ◌^◌, ℤ, pos, neg_ℤ, ◌+ℤ◌, ◌-ℤ◌, ◌*ℤ◌, ◌≤ℤ◌, ◌<ℤ◌, arith}
use Rattle.std.proofs.lemmas.Int.{ints, clamps}
use Rattle.gptp_scaled.specs.Floor.{IsFloor, floor_div}
use Rattle.gptp_scaled.specs.Rate.{FitsRate, unit, limit, unscaled_by, neighbor_rate_of}
use Rattle.gptp_scaled.proofs.ProductLemmas.{distribute}
use Rattle.gptp_scaled.proofs.FloorLemmas.{floor_is, floor_only, floor_above, floor_below, floor_shift}

-- x and the floor of - x q / (2^41 + q) make the floor of x 2^41 / (2^41 + q)
pub unscaled_parts : (q x : ℤ) → FitsRate q → x +ℤ floor_div (pos 0 -ℤ x *ℤ q) (unit +ℤ q) ≡ unscaled_by q x
unscaled_parts q x f =
    let p : pos 0 <ℤ (unit +ℤ q) = omega (arith, ints) in
    let i = floor_shift (pos 0 -ℤ x *ℤ q) (unit +ℤ q) x (floor_div (pos 0 -ℤ x *ℤ q) (unit +ℤ q))
    (floor_is (pos 0 -ℤ x *ℤ q) (unit +ℤ q) p) in
    let e : (unit +ℤ q) *ℤ x +ℤ (pos 0 -ℤ x *ℤ q) ≡ x *ℤ unit = omega (arith, ints, distribute x unit q) in
    let j : IsFloor (x *ℤ unit) (unit +ℤ q) (x +ℤ floor_div (pos 0 -ℤ x *ℤ q) (unit +ℤ q)) = rw e at i in
    floor_only (x *ℤ unit) (unit +ℤ q) (x +ℤ floor_div (pos 0 -ℤ x *ℤ q) (unit +ℤ q)) p j

-- a gain of 1/4096 or more is past the limit
pub past_high : (gain elapsed : ℤ) → pos 0 <ℤ elapsed → elapsed ≤ℤ (gain *ℤ pos 4096)
    → limit ≡ neighbor_rate_of gain elapsed
past_high gain elapsed p h =
    let l = floor_above (gain *ℤ unit) elapsed (pos (2 ^ 29)) p (omega (arith, ints)) in
    omega (arith, ints, clamps)

-- and so is a loss of as much
pub past_low : (gain elapsed : ℤ) → pos 0 <ℤ elapsed → (gain *ℤ pos 4096) ≤ℤ neg_ℤ elapsed
    → neg_ℤ limit ≡ neighbor_rate_of gain elapsed
past_low gain elapsed p h =
    let l = floor_below (gain *ℤ unit) elapsed (neg_ℤ (pos (2 ^ 29))) p (omega (arith, ints)) in
    omega (arith, ints, clamps)
