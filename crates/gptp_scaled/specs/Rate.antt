-- Rates, and times that they change.
use Rattle.std.specs.Prelude.{ℤ, pos, neg_ℤ, ◌+ℤ◌, ◌-ℤ◌, ◌*ℤ◌, ◌^◌, ◌≤ℤ◌, int_lt, FitsSigned, if◌then◌else◌}
use Rattle.std.specs.Int.{w32, int_min, int_max}
use Rattle.gptp_scaled.specs.Floor.{floor_div}

-- q is a signed number of 32 bits (cumulativeScaledRateOffset, IEEE 802.1AS-2020, 11.4.4.3.6)
abbrev pub FitsRate : ℤ → Type 0
FitsRate q = FitsSigned w32 q

-- what stands for 1 in a rate: q stands for 1 + q/2^41
abbrev pub unit : ℤ
unit = pos (2 ^ 41)

-- the time x times the rate, rounded down: x + x q/2^41
abbrev pub scaled_by : ℤ → ℤ → ℤ
scaled_by q x = x +ℤ floor_div (x *ℤ q) unit

-- the time x divided by the rate, rounded down
abbrev pub unscaled_by : ℤ → ℤ → ℤ
unscaled_by q x = floor_div (x *ℤ unit) (unit +ℤ q)

-- the largest q of a neighbour: 200 parts in a million, rounded down (profile; each clock keeps within 100: IEEE
-- 802.1AS-2020, B.1.1)
abbrev pub limit : ℤ
limit = pos 439804651

-- q is at most 200 parts in a million either way
pub record IsNeighborRate (q : ℤ) : Type 0 where
  pub low : neg_ℤ limit ≤ℤ q
  pub high : q ≤ℤ limit

-- the number within 200 parts in a million that is nearest to q
abbrev pub clamped : ℤ → ℤ
clamped q = int_max (neg_ℤ limit) (int_min q limit)

-- the rate of a clock that gains so much while the own clock counts `elapsed`
abbrev pub neighbor_rate_of : ℤ → ℤ → ℤ
neighbor_rate_of gain elapsed = clamped (floor_div (gain *ℤ unit) elapsed)

-- the rate of a neighbour on whose clock e3 passed while e4 passed on the own one; 0 where no time passed on the own
-- one (profile)
abbrev pub rate_of : ℤ → ℤ → ℤ
rate_of e3 e4 = if int_lt (pos 0) e4 then neighbor_rate_of (e3 -ℤ e4) e4 else pos 0
