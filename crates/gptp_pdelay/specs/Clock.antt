-- The local clock of a system, which drifts and is never steered, and how it is read.
use Rattle.std.specs.Prelude.{ℕ, ◌+◌, ◌*◌, ◌^◌, ◌≤◌, ℤ, pos, neg_ℤ, ◌+ℤ◌, ◌-ℤ◌, ◌*ℤ◌, ◌≤ℤ◌, ◌<ℤ◌}
use Rattle.gptp_scaled.specs.Floor.{floor_div}
use Rattle.gptp_scaled.specs.Rate.{unit}
use Rattle.gptp_scaled.specs.Counts.{AreWithin}
use Rattle.gptp_scaled.specs.declared.time_stamp.Stamping.{Stamping}
use Rattle.gptp_scaled.specs.TimeStamp.{stamp_blur, time_stamp}

-- the largest drift, in units of 2^-41: 100 parts in a million (IEEE 802.1AS-2020, B.1.1)
abbrev pub drift_limit : ℤ
drift_limit = pos 219902325

-- a clock gains or loses at most 100 parts in a million
pub record IsDrift (drift : ℤ) : Type 0 where
  pub low : neg_ℤ drift_limit ≤ℤ drift
  pub high : drift ≤ℤ drift_limit

-- What the local clock shows at the time t, in units of 2^-16 ns: the phase and t are in ns, and the clock runs at
-- the rate 1 + drift/2^41 (profile).
abbrev pub local_clock : ℕ → ℤ → ℕ → ℤ
local_clock phase drift t =
    pos (65536 * phase) +ℤ pos (65536 * t) +ℤ floor_div (pos (65536 * t) *ℤ drift) unit

-- A clock as it is read: what it says is within 32768 w units of what the local clock shows, less a number that is
-- always the same. So two readings differ by what passed between them, within w ns.
pub record IsStampClock (w behind phase : ℕ) (drift : ℤ) (says : ℕ → ℤ) : Type 0 where
  pub near : (t : ℕ) → AreWithin (32768 * w) (says t) (local_clock phase drift t -ℤ pos behind)

-- The local clock itself is one, where half of w covers what it is ahead.
abbrev pub ClockIsRead : Type 0
ClockIsRead = (w behind phase : ℕ) (drift : ℤ) → behind ≤ 32768 * w →
    IsStampClock w behind phase drift (local_clock phase drift)

-- the time stamp that a system takes of its clock
abbrev pub clock_stamp : Stamping → ℕ → ℤ → ℕ → ℤ
clock_stamp k phase drift t = time_stamp k t (local_clock phase drift t)

-- Time stamps are of such a clock, whatever noise is drawn.
abbrev pub StampsMakeClock : Type 0
StampsMakeClock = (k : Stamping) (phase : ℕ) (drift : ℤ) → IsDrift drift →
    IsStampClock (stamp_blur k.granularity k.most_noise) (32768 * k.granularity) phase drift
    (clock_stamp k phase drift)

-- While a span of time passes, in ns, a clock within the limit is read to count this much, in units of 2^-16 ns:
-- between what the slowest and the fastest count, within w ns and less than one unit of rounding either way.
pub record IsElapsed (w span : ℕ) (elapsed : ℤ) : Type 0 where
  pub low : (pos (65536 * span) *ℤ (unit -ℤ drift_limit)) <ℤ (unit *ℤ (elapsed +ℤ pos (65536 * w + 1)))
  pub high : (unit *ℤ (elapsed -ℤ pos (65536 * w + 1))) <ℤ (pos (65536 * span) *ℤ (unit +ℤ drift_limit))

-- what passes on such a clock in a span of time, whenever it begins
abbrev pub ClockElapses : Type 0
ClockElapses = (w behind phase : ℕ) (drift : ℤ) (says : ℕ → ℤ) (t span : ℕ) → IsDrift drift →
    IsStampClock w behind phase drift says → IsElapsed w span (says (t + span) -ℤ says t)

-- the times that a local clock can show: below 2^90 units of 2^-16 ns, which is more than 500,000 years
pub record IsTime (t : ℤ) : Type 0 where
  pub low : pos 0 ≤ℤ t
  pub high : t <ℤ pos (2 ^ 90)

-- with a phase of at most 10^18 ns a clock shows one of them for the first 10^18 ns
abbrev pub ClockShowsTime : Type 0
ClockShowsTime = (phase : ℕ) (drift : ℤ) (t : ℕ) → phase ≤ 1000000000000000000 → t ≤ 1000000000000000000 → IsDrift drift
    → IsTime (local_clock phase drift t)

-- and so are its time stamps, with a noise of at most 1000 ns
abbrev pub StampShowsTime : Type 0
StampShowsTime = (k : Stamping) (phase : ℕ) (drift : ℤ) (t : ℕ) → phase ≤ 1000000000000000000 → t ≤ 1000000000000000000
    → k.most_noise ≤ 1000 → IsDrift drift → IsTime (clock_stamp k phase drift t)
