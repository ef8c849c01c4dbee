-- What one hop adds to the error of the time that is carried. Rates are in units of 2^-41, where 2^41 stands for 1,
-- times of clocks in units of 2^-16 ns, and delays and residences in ns.
use Rattle.std.specs.Prelude.{◌≡◌, ℕ, ◌+◌, ◌-◌, ◌*◌, ◌^◌, ◌<◌, ◌≤◌, ℤ, pos, ◌+ℤ◌, ◌-ℤ◌, ◌*ℤ◌}
use Rattle.gptp_scaled.specs.Rate.{FitsRate, IsNeighborRate, unit}
use Rattle.gptp_scaled.specs.Stamp.{scaled_of}
use Rattle.gptp_scaled.specs.Counts.{AreWithin, IsClockRate, IsCounted}
use Rattle.gptp_pdelay.specs.Measured.{IsDelayAbove, IsDelayBelow, IsDelayWithin}
use Rattle.gptp_correction.specs.declared.correction.Hop.{Hop}
use Rattle.gptp_correction.specs.declared.sync_in.SyncInfo.{SyncInfo}
use Rattle.gptp_correction.specs.Correction.{relayed, sync_received}
use Rattle.gptp_error_laws.specs.TimeError.{hop_error}

-- a rate is within e of that of the root's clock against this clock: 2^41 root / clock
pub record IsRateWithin (e root clock rate : ℕ) : Type 0 where
  pub low : 2 ^ 41 * root ≤ (rate + e) * clock
  pub high : rate * clock ≤ 2 ^ 41 * root + e * clock

-- what comes to a hop: the rate that a Follow_Up carries is a number of 32 bits, the rate of the neighbour within 200
-- parts in a million, and the rate after the hop is that of their sum
pub record AreRates (before neighbour after : ℕ) : Type 0 where
  pub before_low : 2 ^ 41 ≤ before + 2 ^ 31
  pub before_high : before ≤ 2 ^ 41 + 2 ^ 31
  pub neighbour_low : 2 ^ 41 ≤ neighbour + 439804651
  pub neighbour_high : neighbour ≤ 2 ^ 41 + 439804651
  pub after_is : after + 2 ^ 41 ≡ before + neighbour

-- The link time by the own clock, which is the delay divided by the neighbour's rate and rounded down, at the rate
-- after the hop: the neighbour's rate cancels out, and so it needs the rate from above alone. It isn't above what the
-- root's clock counts in the greatest delay, but for w ns by a clock that is fast by 3.58 parts in 10,000, for e /
-- 33550000 of the greatest delay and w in units, where e is the error of the rate from above, for (20 (most + w) +
-- turnaround) / 1500 units and for 5 units of rounding.
abbrev pub LinkTimeIsBelow : Type 0
LinkTimeIsBelow = (w most turnaround root up e delay before neighbour after time : ℕ) → IsClockRate root →
    IsClockRate up → IsRateWithin e root up before → AreRates before neighbour after →
    time * neighbour ≤ delay * 2 ^ 41 → IsDelayBelow w most turnaround up delay →
    50325000000 * time * after ≤
    50325000000 * 65536 * (most * root + 2199810000000 * w)
    + 2 ^ 41 * (1500 * e * (most + w) + 33550000 * (20 * (most + w) + turnaround + 7530))

-- It isn't below what the root's clock counts in the least delay, but for the same.
abbrev pub LinkTimeIsAbove : Type 0
LinkTimeIsAbove = (w least most turnaround root up e delay before neighbour after time : ℕ) → least ≤ most →
    IsClockRate root → IsClockRate up → IsRateWithin e root up before → AreRates before neighbour after →
    delay * 2 ^ 41 < (time + 1) * neighbour → IsDelayBelow w most turnaround up delay →
    IsDelayAbove w least most turnaround up delay →
    50325000000 * 65536 * least * root ≤
    50325000000 * time * after + 2 ^ 41 * (1500 * e * (most + w) + 33550000 * (20 * (most + w) + turnaround + 7530))
    + 50325000000 * 65536 * 2199810000000 * w

-- What the own clock counts while a bridge keeps a Sync, at the rate after the hop, isn't above what the root's clock
-- counts, but for the error e of that rate times the stay and for the rounding of one count.
abbrev pub StayIsBelow : Type 0
StayIsBelow = (stay root own e rate count : ℕ) → IsRateWithin e root own rate → IsCounted own stay count →
    2 ^ 41 * count * rate ≤ 65536 * stay * (2 ^ 41 * root + e * own) + 2 ^ 41 * rate

-- It isn't below it, but for the same.
abbrev pub StayIsAbove : Type 0
StayIsAbove = (stay root own e rate count : ℕ) → IsRateWithin e root own rate → IsCounted own stay count →
    65536 * stay * 2 ^ 41 * root ≤ 2 ^ 41 * (count + 1) * rate + 65536 * stay * e * own

-- What is known of a hop over a link, where the rates of the root's clock and of the neighbour's are these: the rate
-- from above is within `above` of the true one and has 32 bits, and the mean link delay lies where it is measured by
-- readings of which two are off by at most w ns together.
pub record IsOverLink (w least most turnaround root up above : ℕ) (rate neighbour delay : ℤ) : Type 0 where
  pub order : least ≤ most
  pub root_rate : IsClockRate root
  pub up_rate : IsClockRate up
  pub before : ℕ
  pub before_is : unit +ℤ rate ≡ pos before
  pub within : IsRateWithin above root up before
  pub fits : FitsRate rate
  pub near : IsNeighborRate neighbour
  pub measured : IsDelayWithin w least most turnaround up delay

-- the rate after a hop is within `behind` of that of the root's clock against the own one
pub record IsRateBehind (root own behind : ℕ) (rate : ℤ) : Type 0 where
  pub after : ℕ
  pub after_is : unit +ℤ rate ≡ pos after
  pub within : IsRateWithin behind root own after

-- A bridge that keeps a Sync for a stay adds to the correction what passes on the root's clock from egress to egress,
-- where what it reads of its own clock at ingress and egress is off together by w ns at most: within the link's part of
-- the time error with twice w more of jitter and w more of delay, and within the error of the rate from above times the
-- greatest delay and that of the rate after the hop times the stay, each with w more, both over 33550000 ns a unit.
abbrev pub HopKeeps : Type 0
HopKeeps = (w least most turnaround root up own above behind delay stay count passed : ℕ) (off : ℤ) (s : SyncInfo)
    (h : Hop) → IsOverLink w least most turnaround root up above s.rate h.neighbour h.delay →
    IsRateBehind root own behind (s.rate +ℤ h.neighbour) → IsClockRate own → least ≤ delay → delay ≤ most →
    IsCounted own stay count → AreWithin (65536 * w) off (pos 0) → h.egress -ℤ h.ingress ≡ pos count +ℤ off →
    IsCounted root (delay + stay) passed →
    AreWithin (33550000 * hop_error (most - least + 2 * w) (most + w) turnaround + above * (most + w)
    + behind * (stay + w)) (pos 33550000 *ℤ ((relayed s h).correction -ℤ s.correction)) (pos (33550000 * passed))

-- What a system computes from a Sync and its Follow_Up is the root's time when the Sync came. With what its own clock
-- counts from there to the Follow_Up, at most the jitter later, and with what it read of its clock at the ingress too
-- late, half of w at most, it is the root's time then: within half of w less than a link's part of the time error,
-- since that half is the egress', and within the error of the rate from above times the greatest delay and w.
abbrev pub OffsetIsWithin : Type 0
OffsetIsWithin = (w least most turnaround root up own above delay wait count passed : ℕ) (off : ℤ) (s : SyncInfo)
    (link_delay neighbour : ℤ) → IsOverLink w least most turnaround root up above s.rate neighbour link_delay →
    IsClockRate own → least ≤ delay → delay ≤ most → wait ≤ most - least → IsCounted own wait count →
    AreWithin (32768 * w) off (pos 0) → IsCounted root (delay + wait) passed →
    AreWithin (33550000 * (hop_error (most - least + 2 * w) (most + w) turnaround - 32768 * w) + above * (most + w))
    (pos 33550000 *ℤ (sync_received s link_delay neighbour -ℤ (scaled_of s.origin +ℤ s.correction) +ℤ pos count
    +ℤ off)) (pos (33550000 * passed))
