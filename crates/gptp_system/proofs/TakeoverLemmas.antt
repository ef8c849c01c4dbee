-- What a system tells is a timestamp as long as a simulation lasts.
use Rattle.std.proofs.Common.{◌≡◌, ℕ, ◌+◌, ◌-◌, ◌*◌, ◌≤◌, ℤ, pos, ◌+ℤ◌, ◌-ℤ◌, ◌*ℤ◌, ◌≤ℤ◌, ◌<ℤ◌, Bool, true, false, ◌&&◌, if◌then◌else◌, Option, Some, None, refl, subst, arith}
use Rattle.std.proofs.lemmas.Int.{ints}
use Rattle.std.proofs.lemmas.Bool.Decides.{nat_tests}
use Rattle.gptp_scaled.specs.Rate.{unit}
use Rattle.gptp_scaled.specs.Stamp.{FitsStamp}
use Rattle.gptp_scaled.proofs.TimeStampLemmas.{time_stamp_is_near}
use Rattle.gptp_pdelay.specs.Clock.{IsDrift, IsTime, drift_limit, local_clock}
use Rattle.gptp_pdelay.proofs.ClockLemmas.{clock_elapses, clock_is_read, clock_shows_time, stamp_shows_time}
use Rattle.gptp_setup.specs.Intervals.{interval_of, IsMoment}
use Rattle.gptp_system.specs.Ready.{IsReady}
use Rattle.gptp_system.specs.State.{SystemState, local_time, stamp_time, stamping}
use Rattle.gptp_system.specs.Syncing.{restarted}
use Rattle.gptp_system.specs.Takeover.{base_after, base_to, can_go_on, leading, reading, takes_over, time_limit, told_stamp, told_time}

-- ---- a clock goes on

passes : (a b : ℤ) (span : ℕ)
    → (pos (65536 * span) *ℤ (unit -ℤ drift_limit)) <ℤ (unit *ℤ ((b -ℤ a) +ℤ pos 1)) → a ≤ℤ b
passes a b span low = omega (arith, ints)

clock_rises : (phase : ℕ) (drift : ℤ) (t u : ℕ) → IsDrift drift → t ≤ u
    → local_clock phase drift t ≤ℤ local_clock phase drift u
clock_rises phase drift t u d later =
    let e : t + (u - t) ≡ u = omega arith in
    subst (λ x. local_clock phase drift t ≤ℤ local_clock phase drift x) e
    (passes (local_clock phase drift t) (local_clock phase drift (t + (u - t))) (u - t)
    (clock_elapses 0 0 phase drift (local_clock phase drift) t (u - t) d
    (clock_is_read 0 0 phase drift (omega arith))).low)

pub time_rises : (s : SystemState) (t u : ℕ) → IsReady s → t ≤ u → local_time s t ≤ℤ local_time s u
time_rises s t u ready later = clock_rises s.phase s.drift t u ready.drift later

pub time_from_zero : (phase : ℕ) (drift : ℤ) (t : ℕ) → phase ≤ 1000000000000000000 → IsDrift drift
    → pos 0 ≤ℤ local_clock phase drift t
time_from_zero phase drift t few d =
    let start = (clock_shows_time phase drift 0 few (omega arith) d).low in
    let later = clock_rises phase drift 0 t d (omega arith) in omega (arith, ints, start, later)

-- what it stamps is a time
pub stamps_time : (s : SystemState) (now : ℕ) → IsReady s → IsMoment now → IsTime (stamp_time s now)
stamps_time s now ready moment =
    stamp_shows_time (stamping s) s.phase s.drift now ready.phase (omega (arith, moment)) ready.params.noise ready.drift

-- ---- bases

record CanGoOn (time : ℤ) : Type 0 where
  low : pos 0 ≤ℤ time
  high : time <ℤ time_limit

going_on : (time : ℤ) → can_go_on time ≡ true → CanGoOn time
going_on time is = record { low = grind (arith, ints, nat_tests); high = grind (arith, ints, nat_tests) }

-- what is told by such a base is from 0 on, and so small
base_low : (read : Option ℤ) (shown later : ℤ) → pos 0 ≤ℤ shown → shown ≤ℤ later
    → pos 0 ≤ℤ (later +ℤ base_to read shown)
base_low None shown later from rises = omega (arith, ints)
base_low (Some time) shown later from rises = go (can_go_on time) refl
  where
    go : (b : Bool) → can_go_on time ≡ b → pos 0 ≤ℤ (later +ℤ (if b then time -ℤ shown else pos 0))
    go true is = let k = going_on time is in let low = k.low in omega (arith, ints, low)
    go false is = omega (arith, ints)

base_high : (read : Option ℤ) (shown : ℤ) → pos 0 ≤ℤ shown → base_to read shown <ℤ time_limit
base_high None shown from = omega (arith, ints)
base_high (Some time) shown from = go (can_go_on time) refl
  where
    go : (b : Bool) → can_go_on time ≡ b → (if b then time -ℤ shown else pos 0) <ℤ time_limit
    go true is = let k = going_on time is in let high = k.high in omega (arith, ints, high)
    go false is = omega (arith, ints)

shown_from_zero : (s : SystemState) (now : ℕ) → IsReady s → pos 0 ≤ℤ local_time s now
shown_from_zero s now ready = time_from_zero s.phase s.drift now ready.phase ready.drift

-- ---- what is sent

-- the time stamp of what is told, from 0 on and by a base below the limit, is a timestamp
pub told_fits : (s : SystemState) (now : ℕ) → IsReady s → IsMoment now → pos 0 ≤ℤ told_time s now
    → FitsStamp (told_stamp s now)
told_fits s now ready moment from =
    let shown = clock_shows_time s.phase s.drift now ready.phase (omega (arith, moment)) ready.drift in
    let soon = shown.high in
    let base = ready.based in
    let few = ready.params.noise in
    let near = time_stamp_is_near (stamping s) now (told_time s now) from in
    record { low = near.positive; high = omega (arith, ints, near.below, soon, base, few) }

-- ---- a system that leads

-- what it tells from now on is from 0 on
pub led_low : (s : SystemState) (now t : ℕ) → IsReady s → s.sync ≤ now → now ≤ t
    → pos 0 ≤ℤ told_time (leading now s) t
led_low s now t ready due later = go (takes_over s && s.continues)
  where
    go : (b : Bool)
        → pos 0 ≤ℤ (local_time s t +ℤ (if b then base_to (reading s now) (local_time s now) else s.base))
    go true =
        base_low (reading s now) (local_time s now) (local_time s t) (shown_from_zero s now ready)
        (time_rises s now t ready later)
    go false =
        let told = ready.told in
        let rises = time_rises s s.sync t ready (omega (arith, due, later)) in omega (arith, ints, told, rises)

led_high : (s : SystemState) (now : ℕ) → IsReady s → base_after now s <ℤ time_limit
led_high s now ready = go (takes_over s && s.continues)
  where
    go : (b : Bool) → (if b then base_to (reading s now) (local_time s now) else s.base) <ℤ time_limit
    go true = base_high (reading s now) (local_time s now) (shown_from_zero s now ready)
    go false = ready.based

pub led_ready : (s : SystemState) (now : ℕ) → IsReady s → s.sync ≤ now → IsReady (restarted now (leading now s))
led_ready s now ready due = record {
  params = ready.params;
  largest = ready.largest;
  phase = ready.phase;
  drift = ready.drift;
  places = ready.places;
  few = ready.few;
  placed = ready.placed;
  recent = ready.recent;
  ports = ready.ports;
  lapses = ready.lapses;
  told = led_low s now (now + interval_of s.params.sync) ready due (omega arith);
  based = led_high s now ready;
}

-- what it tells now is a timestamp
pub led_fits : (s : SystemState) (now : ℕ) → IsReady s → IsMoment now → s.sync ≤ now
    → FitsStamp (told_stamp (leading now s) now)
led_fits s now ready moment due =
    told_fits (restarted now (leading now s)) now (led_ready s now ready due) moment
    (led_low s now now ready due (omega arith))

-- ---- one that doesn't

pub restarted_ready : (s : SystemState) (now : ℕ) → IsReady s → s.sync ≤ now → IsReady (restarted now s)
restarted_ready s now ready due =
    let told = ready.told in
    let later : s.sync ≤ now + interval_of s.params.sync = omega (arith, due) in
    let rises = time_rises s s.sync (now + interval_of s.params.sync) ready later in
    record {
      params = ready.params;
      largest = ready.largest;
      phase = ready.phase;
      drift = ready.drift;
      places = ready.places;
      few = ready.few;
      placed = ready.placed;
      recent = ready.recent;
      ports = ready.ports;
      lapses = ready.lapses;
      told = omega (arith, ints, told, rises);
      based = ready.based;
    }
