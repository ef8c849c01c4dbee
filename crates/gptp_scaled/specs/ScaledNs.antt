-- The range of times.
use Rattle.std.specs.Prelude.{ℤ, pos, neg_ℤ, ◌^◌, ◌≤ℤ◌, ◌<ℤ◌}

-- z is a signed number of 96 bits (ScaledNs, IEEE 802.1AS-2020, 6.4.3.1)
pub record FitsScaled (z : ℤ) : Type 0 where
  pub low : neg_ℤ (pos (2 ^ 95)) ≤ℤ z
  pub high : z <ℤ pos (2 ^ 95)
