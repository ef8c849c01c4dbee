-- How exact a port measures its link: the neighbour's rate and the mean delay of two exchanges, one after the other.
use Rattle.std.specs.Prelude.{◌≡◌, ℕ, ◌+◌, ◌-◌, ◌*◌, ◌^◌, ◌<◌, ◌≤◌, ℤ, pos, ◌+ℤ◌, ◌-ℤ◌, unsigned_abs}
use Rattle.gptp_scaled.specs.Rate.{unit, rate_of}
use Rattle.gptp_scaled.specs.Counts.{AreWithin, IsClockRate, IsCounted}
use Rattle.gptp_pdelay.specs.Clock.{IsDrift, IsStampClock, local_clock}
use Rattle.gptp_pdelay.specs.Exchange.{mean_delay}
use Rattle.gptp_pdelay.specs.GoodLink.{IsGoodLink}
use Rattle.gptp_pdelay.specs.Late.{AreLate}

-- the rate of a clock with this drift, in units of 2^-41
abbrev pub clock_rate : ℤ → ℕ
clock_rate drift = unsigned_abs (unit +ℤ drift)

-- what passes on a clock is a number that the clock's rate counts
pub record Counts (rate span : ℕ) (elapsed : ℤ) : Type 0 where
  pub count : ℕ
  pub is : elapsed ≡ pos count
  pub counted : IsCounted rate span count

-- A clock counts in any span of time, in ns, what its rate makes of it, within one unit of 2^-16 ns, whenever the span
-- begins.
pub record ClockCounts : Type 0 where
  pub rate : (drift : ℤ) → IsDrift drift → IsClockRate (clock_rate drift)
  pub counts : (phase : ℕ) (drift : ℤ) (t span : ℕ) → IsDrift drift →
      Counts (clock_rate drift) span (local_clock phase drift (t + span) -ℤ local_clock phase drift t)

-- The spans of an exchange, in ns, and of its answer since that of the exchange before: the request and the response
-- took `there` and `home`, the response before took `before`, and the response before came `gap` before the request was
-- sent. So much passed between the two responses at the requester, `arrivals`, and at the responder, `sendings`.
pub record AreExchangeSpans (least most turnaround : ℕ) (whole arrivals sendings : ℕ) : Type 0 where
  pub there : ℕ
  pub home : ℕ
  pub before : ℕ
  pub gap : ℕ
  pub there_long : least ≤ there
  pub there_short : there ≤ most
  pub home_long : least ≤ home
  pub home_short : home ≤ most
  pub before_long : least ≤ before
  pub before_short : before ≤ most
  pub whole_is : whole ≡ there + turnaround + home
  pub arrivals_is : arrivals ≡ gap + whole
  pub sendings_is : sendings + home ≡ arrivals + before

-- By their definition the answer's spans make a weighted mean: sendings whole / arrivals is the turnaround and between
-- twice the least and twice the greatest delay, whatever the turnaround and the gap are. So it is too, in parts of a
-- nanosecond, where `more` of them are added to the exchange or taken from it.
pub record WeightedMean : Type 0 where
  pub low : (parts more least most turnaround whole arrivals sendings k l : ℕ) →
      AreExchangeSpans least most turnaround whole arrivals sendings → k + more ≡ parts * whole →
      l + more ≡ parts * (turnaround + 2 * least) → arrivals * l ≤ sendings * k
  pub high : (parts more least most turnaround whole arrivals sendings : ℕ) →
      AreExchangeSpans least most turnaround whole arrivals sendings → parts * whole + more ≤ parts * arrivals →
      sendings * (parts * whole + more) ≤ arrivals * (parts * (turnaround + 2 * most) + more)

-- What the requester's clock counts in such parts, k, brought to the responder's rate by a ratio r, in units of 2^-41,
-- that isn't above the measured one, e3 / e4: it isn't above what the responder's clock counts in the mean, l, within
-- three units.
abbrev pub MeanIsBelow : Type 0
MeanIsBelow = (parts arrivals sendings up own e3 e4 k l y r : ℕ) → IsCounted up sendings e3 →
    IsCounted own arrivals e4 → parts * 2 ^ 41 * y ≤ 65536 * own * k + parts * 2 ^ 41 →
    sendings * k ≤ arrivals * l → k ≤ parts * arrivals → 0 < arrivals → r * e4 ≤ 2 ^ 41 * e3 →
    parts * (r * y) ≤ 65536 * l * up + parts * 2 ^ 41 + 2 * parts * r

-- By a ratio that isn't below the measured one it isn't below what that clock counts in the mean, within three units.
abbrev pub MeanIsAbove : Type 0
MeanIsAbove = (parts arrivals sendings up own e3 e4 k l y r : ℕ) → IsCounted up sendings e3 →
    IsCounted own arrivals e4 → 65536 * own * k ≤ parts * 2 ^ 41 * y + parts * 2 ^ 41 →
    arrivals * l ≤ sendings * k → k ≤ parts * arrivals → 0 < arrivals → 2 ^ 41 * e3 ≤ r * e4 →
    65536 * l * up ≤ parts * (r * (y + 2)) + parts * 2 ^ 41

-- A delay in 2^-16 ns isn't above what a clock of the rate `up` counts in the greatest delay, and w ns by a clock that
-- is fast by 1.54 parts in 10,000, but for four units and the 1525th part of the nanoseconds that an exchange and w
-- take at most.
abbrev pub IsDelayBelow : ℕ → ℕ → ℕ → ℕ → ℕ → Type 0
IsDelayBelow w most turnaround up delay =
    1525 * 2 ^ 41 * delay ≤
    1525 * 65536 * (most * up + 2199360000000 * w) + 2 ^ 41 * (6100 + 2 * (most + w) + turnaround)

-- It isn't below what that counts in the least delay less so many ns, but for the same.
abbrev pub IsDelayAbove : ℕ → ℕ → ℕ → ℕ → ℕ → ℕ → Type 0
IsDelayAbove w least most turnaround up delay =
    1525 * 65536 * least * up ≤
    2 ^ 41 * (1525 * delay + 6100 + 2 * (most + w) + turnaround) + 1525 * 65536 * 2199360000000 * w

-- both, of a delay that isn't negative
pub record IsDelayWithin (w least most turnaround up : ℕ) (delay : ℤ) : Type 0 where
  pub value : ℕ
  pub is : delay ≡ pos value
  pub low : IsDelayAbove w least most turnaround up value
  pub high : IsDelayBelow w most turnaround up value

-- What the two clocks count in the spans of two exchanges, and what is read of them, off by up to w ns: e4 and e3 of
-- what passed since the exchange before, y from request to response, and z from hearing to answering. These two may be
-- negative.
pub record IsReadExchange (w turnaround whole arrivals sendings up own e3 e4 : ℕ) (y z : ℤ) : Type 0 where
  pub own_all : ℕ
  pub own_whole : ℕ
  pub up_all : ℕ
  pub up_wait : ℕ
  pub all_counted : IsCounted own arrivals own_all
  pub whole_counted : IsCounted own whole own_whole
  pub sent_counted : IsCounted up sendings up_all
  pub wait_counted : IsCounted up turnaround up_wait
  pub late : AreLate (65536 * w) own_all up_all e3 e4
  pub y_is : y +ℤ pos late.asked ≡ pos (own_whole + late.came)
  pub z_is : z +ℤ pos late.heard ≡ pos (up_wait + late.sent)

-- The mean link delay of an exchange, with the neighbour rate that is measured by it and the one before, lies there
-- whatever the turnaround: the error of the rate costs nothing, since rate and delay are of one exchange. The 1525th
-- part is for two clocks whose true rates differ by more than the 200 parts in a million of a neighbour rate. The
-- exchange before was over 12 w ns before the request was sent, as it is on each good link.
abbrev pub DelayIsWithin : Type 0
DelayIsWithin = (w least most turnaround whole arrivals sendings up own e3 e4 : ℕ) (y z : ℤ) → IsClockRate up →
    IsClockRate own → w ≤ 3000 → 1 ≤ turnaround → AreExchangeSpans least most turnaround whole arrivals sendings →
    whole + 12 * w ≤ arrivals → IsReadExchange w turnaround whole arrivals sendings up own e3 e4 y z →
    IsDelayWithin w least most turnaround up (mean_delay (rate_of (pos e3) (pos e4)) y z)

-- On a good link the next request is sent so late.
abbrev pub RestIsLong : Type 0
RestIsLong = (w most turnaround threshold period : ℕ) → IsGoodLink (most + w) turnaround threshold →
    2 * threshold + turnaround < period → 62500000 ≤ period → w ≤ 3000 → 2 * most + turnaround + 12 * w ≤ period

-- The moments of an exchange, in ns: the requester sends the request, the responder hears it, and the response, which
-- it sends one turnaround later, comes back.
pub record Moments : Type 0 where
  pub asked : ℕ
  pub heard : ℕ
  pub came : ℕ

-- its two messages took at least the least delay of the link and at most the greatest
pub record IsCarried (least most turnaround : ℕ) (m : Moments) : Type 0 where
  pub there_long : m.asked + least ≤ m.heard
  pub there_short : m.heard ≤ m.asked + most
  pub home_long : m.heard + turnaround + least ≤ m.came
  pub home_short : m.came ≤ m.heard + turnaround + most

-- The rate and the delay are those that a port measures by two exchanges, one after the other: the request of the later
-- was sent an interval or more after that of the earlier, and not before the earlier had ended. The clocks are that of
-- the requester, `mine`, and that of the responder, `yours`. (The definitions are those of `measurement_of`.)
pub record AreMeasured (least most turnaround interval : ℕ) (mine yours : ℕ → ℤ) (rate delay : ℤ) : Type 0 where
  pub earlier : Moments
  pub later : Moments
  pub earlier_carried : IsCarried least most turnaround earlier
  pub later_carried : IsCarried least most turnaround later
  pub apart : earlier.asked + interval ≤ later.asked
  pub ended : earlier.came ≤ later.asked
  pub rate_is : rate ≡ rate_of (yours (later.heard + turnaround) -ℤ yours (earlier.heard + turnaround))
      (mine later.came -ℤ mine earlier.came)
  pub delay_is : delay ≡ mean_delay rate (mine later.came -ℤ mine later.asked)
      (yours (later.heard + turnaround) -ℤ yours later.heard)

-- what is measured on a link: the rate is within m + 3 of that of the two clocks, and the delay between what the
-- responder's clock counts in the least and in the greatest delay, w ns more or less
pub record IsMeasuredWithin (w least most turnaround m up own : ℕ) (rate delay : ℤ) : Type 0 where
  pub rate_within : AreWithin (m + 3) rate (rate_of (pos up) (pos own))
  pub delay_within : IsDelayWithin w least most turnaround up delay

-- Two exchanges measure the link within its jitter and twice w, whatever the phases and the drifts of the clocks within
-- their limits, where the later begins 12 w ns after the end of the earlier: m is 2202000000000 (jitter + 2 w) /
-- interval at least, and an interval has 2^-4 s at least (profile).
abbrev pub MeasurementIsWithin : Type 0
MeasurementIsWithin = (w behind least most turnaround interval m phase phase' : ℕ) (drift drift' rate delay : ℤ)
    (mine yours : ℕ → ℤ) → IsDrift drift → IsDrift drift' → IsStampClock w behind phase drift mine →
    IsStampClock w behind phase' drift' yours → least ≤ most → 1 ≤ turnaround → w ≤ 3000 → 62500000 ≤ interval →
    2202000000000 * (most - least + 2 * w) ≤ m * interval →
    (a : AreMeasured least most turnaround interval mine yours rate delay) → a.earlier.came + 12 * w ≤ a.later.asked →
    IsMeasuredWithin w least most turnaround m (clock_rate drift') (clock_rate drift) rate delay
