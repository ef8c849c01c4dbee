use Rattle.std.proofs.Common.{◌≡◌, ℕ, ◌*◌, ◌+◌, ℤ, pos, neg_ℤ, ◌+ℤ◌, ◌*ℤ◌, ◌≤ℤ◌, ap, ◌∙◌, arith}
use Rattle.std.proofs.lemmas.Int.{ints}
use Rattle.gptp_scaled.specs.Rate.{unit}
use Rattle.gptp_scaled.proofs.FloorLemmas.{floor_is}
use Rattle.gptp_scaled.proofs.ProductLemmas.{distribute, times_grows}
use Rattle.gptp_scaled.proofs.TimeStampLemmas.{time_stamp_is_centred, time_stamp_is_near}
use Rattle.gptp_pdelay.specs.Clock.{IsDrift, ClockElapses, ClockIsRead, ClockShowsTime, StampShowsTime, StampsMakeClock, drift_limit, local_clock}

-- what a clock gains by its drift in so many units of time, before rounding
record Gains (n : ℕ) (drift : ℤ) : Type 0 where
  low : neg_ℤ (pos (n * 219902325)) ≤ℤ (pos n *ℤ drift)
  high : (pos n *ℤ drift) ≤ℤ pos (n * 219902325)

gains : (n : ℕ) (drift : ℤ) → IsDrift drift → Gains n drift
gains n drift d =
    let low = times_grows (pos n) (neg_ℤ drift_limit) drift (omega (arith, ints)) d.low in
    let high = times_grows (pos n) drift drift_limit (omega (arith, ints)) d.high in
    record { low = omega (arith, ints); high = omega (arith, ints) }

-- a product with a sum of spans
pub spans : (n m : ℕ) (z : ℤ) → pos (n + m) *ℤ z ≡ pos n *ℤ z +ℤ pos m *ℤ z
spans n m z = omega (arith, ints, distribute z (pos n) (pos m))

-- the clock itself is read as it is
pub clock_is_read : ClockIsRead
clock_is_read w behind phase drift h = record {
  near = λ t. record { low = omega (arith, ints, h); high = omega (arith, ints, h) };
}

-- what passes on a clock is what passes, and what its drift adds to it, within the rounding and what two readings are
-- off
pub clock_elapses : ClockElapses
clock_elapses w behind phase drift says t span d clock =
    let before = floor_is (pos (65536 * t) *ℤ drift) unit (omega (arith, ints)) in
    let after = floor_is (pos (65536 * (t + span)) *ℤ drift) unit (omega (arith, ints)) in
    let gained = gains (65536 * span) drift d in
    let times : 65536 * (t + span) ≡ 65536 * t + 65536 * span = omega arith in
    let parts = ap (λ n. pos n *ℤ drift) times ∙ spans (65536 * t) (65536 * span) drift in
    let first = clock.near t in
    let last = clock.near (t + span) in
    record {
      low = omega (arith, ints, before.reached, after.passed, gained.low, parts, first.high, last.low);
      high = omega (arith, ints, before.passed, after.reached, gained.high, parts, first.low, last.high);
    }

-- a clock shows nothing negative
shows_some : (phase : ℕ) (drift : ℤ) (t : ℕ) → IsDrift drift → pos 0 ≤ℤ local_clock phase drift t
shows_some phase drift t d =
    let floor = floor_is (pos (65536 * t) *ℤ drift) unit (omega (arith, ints)) in
    let gained = gains (65536 * t) drift d in
    omega (arith, ints, floor.passed, gained.low)

pub stamps_make_clock : StampsMakeClock
stamps_make_clock k phase drift d = record {
  near = λ t. time_stamp_is_centred k t (local_clock phase drift t) (shows_some phase drift t d);
}

-- a clock within its limits shows a time
pub clock_shows_time : ClockShowsTime
clock_shows_time phase drift t p q d =
    let floor = floor_is (pos (65536 * t) *ℤ drift) unit (omega (arith, ints)) in
    let gained = gains (65536 * t) drift d in
    record {
      low = omega (arith, ints, floor.passed, gained.low);
      high = omega (arith, ints, floor.reached, gained.high);
    }

-- and what it stamps, little more
pub stamp_shows_time : StampShowsTime
stamp_shows_time k phase drift t p q few d =
    let floor = floor_is (pos (65536 * t) *ℤ drift) unit (omega (arith, ints)) in
    let gained = gains (65536 * t) drift d in
    let near = time_stamp_is_near k t (local_clock phase drift t) (shows_some phase drift t d) in
    record {
      low = near.positive;
      high = omega (arith, ints, floor.reached, gained.high, near.below, few);
    }
