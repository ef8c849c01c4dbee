-- What clocks count, and what two counts say of the rate of a neighbour's clock.
use Rattle.std.specs.Prelude.{ℕ, ◌+◌, ◌*◌, ◌/◌, ◌^◌, ◌<◌, ◌≤◌, ℤ, pos, ◌+ℤ◌, ◌≤ℤ◌}
use Rattle.gptp_scaled.specs.Rate.{rate_of}

-- two whole numbers are at most m apart
pub record AreWithin (m : ℕ) (x y : ℤ) : Type 0 where
  pub low : y ≤ℤ (x +ℤ pos m)
  pub high : x ≤ℤ (y +ℤ pos m)

-- the rate of a clock, in units of 2^-41: 2^41 neither gains nor loses, and it is within 100 parts in a million of that
-- (IEEE 802.1AS-2020, B.1.1)
pub record IsClockRate (rate : ℕ) : Type 0 where
  pub low : 2 ^ 41 ≤ rate + 219902325
  pub high : rate ≤ 2 ^ 41 + 219902325

-- Two readings of a clock of this rate, in units of 2^-16 ns, differ by so many while a span passes, in ns: by 65536
-- span rate / 2^41, within the blur either way.
pub record IsStamped (blur rate span count : ℕ) : Type 0 where
  pub low : 65536 * span * rate ≤ 2 ^ 41 * (count + blur)
  pub high : 2 ^ 41 * count ≤ 65536 * span * rate + 2 ^ 41 * blur

-- What a clock shows is rounded down at the beginning and at the end of a span: it counts within one unit.
abbrev pub IsCounted : ℕ → ℕ → ℕ → Type 0
IsCounted rate span count = IsStamped 1 rate span count

-- two spans of time differ by at most the jitter
pub record DifferBy (jitter span span' : ℕ) : Type 0 where
  pub low : span ≤ span' + jitter
  pub high : span' ≤ span + jitter

-- The neighbour's clock, of the rate `up`, is read e3 later after one span, and the own one e4 later after another,
-- which differs from the first by at most the jitter. Then the quotient of the two is within m of that of the rates,
-- both rounded down in units of 2^-41, where m e4 is 65536 jitter up and 1 + up / own blurs at least.
abbrev pub RateIsWithin : Type 0
RateIsWithin = (blur jitter span span' up own e3 e4 m : ℕ) → IsStamped blur up span e3 → IsStamped blur own span' e4 →
    DifferBy jitter span span' → 0 < blur → 0 < own →
    65536 * jitter * own * up + 2 ^ 41 * blur * (up + own) ≤ m * own * e4 →
    AreWithin m (pos (e3 * 2 ^ 41 / e4)) (pos (up * 2 ^ 41 / own))

-- A neighbour rate that is measured by readings of which two are off by at most w ns and a unit, over spans that are by
-- at most twice the jitter shorter than the interval of the requests, is within m + 3 of that of the two clocks, where
-- m is 2202000000000 (jitter + 2 w) / interval at least. Both are kept within 200 parts in a million. An interval has
-- 2^-4 s at least (profile).
abbrev pub MeasuredWithin : Type 0
MeasuredWithin = (w jitter interval span span' up own e3 e4 m : ℕ) → IsClockRate up → IsClockRate own →
    IsStamped (65536 * w + 1) up span e3 → IsStamped (65536 * w + 1) own span' e4 → DifferBy jitter span span' →
    w ≤ 3000 → 62500000 ≤ interval → interval ≤ span' + 2 * jitter → 2202000000000 * (jitter + 2 * w) ≤ m * interval →
    AreWithin (m + 3) (rate_of (pos e3) (pos e4)) (rate_of (pos up) (pos own))
