-- What a Follow_Up tells as it is sent, and what a port has measured, where both are as exact as the time error says.
use Rattle.std.specs.Prelude.{◌≡◌, ◌⊎◌, ℕ, zero, suc, min, ◌+◌, ◌*◌, ◌≤◌, ℤ, pos, negsuc, neg_ℤ, ◌+ℤ◌, ◌-ℤ◌, ◌*ℤ◌, ◌≤ℤ◌, unsigned_abs, Option, Some}
use Rattle.gptp_scaled.specs.Rate.{FitsRate, IsNeighborRate}
use Rattle.gptp_scaled.specs.Stamp.{IsTimestamp, Timestamp, scaled_of}
use Rattle.gptp_scaled.specs.Counts.{AreWithin}
use Rattle.gptp_pdelay.specs.GoodLink.{ceil_div}
use Rattle.gptp_pdelay.specs.Measured.{IsDelayWithin}
use Rattle.gptp_correction.specs.declared.correction.Relayed.{Relayed}
use Rattle.gptp_correction.specs.declared.sync_in.SyncInfo.{SyncInfo}
use Rattle.gptp_correction.specs.Sum.{sum_below}
use Rattle.gptp_error_laws.specs.TimeError.{Way, clock_at, link_at, measured_jitter_at, measured_most_at, rates_error_at, steady_rate_at, time_error_at, total_below}
use Rattle.gptp_error_laws.specs.WayLaws.{shown_at}

-- How near the neighbour rate of the link at a place is measured, in units of 2^-41. It is held at 200 parts in a
-- million, and so is the one without jitter.
abbrev pub measured_error_at : Way → ℕ → ℕ
measured_error_at w i = min (ceil_div (2202000000000 * measured_jitter_at w i) w.interval) 879609302 + 3

-- What a port has measured of the link at a place is right: the neighbour rate is near that of the two clocks, and the
-- mean link delay lies between the least and the greatest delay of the link (IEEE 802.1AS-2020, 11.2.19.3). Shown by
-- exchanges_measure_right and parents_are_measured, from what measuring_settles of gptp_pdelay_machine says of a port.
pub record IsMeasuredAt (w : Way) (i : ℕ) (rate delay : ℤ) : Type 0 where
  pub limited : IsNeighborRate rate
  pub rate_within : AreWithin (measured_error_at w i) rate (steady_rate_at w i)
  pub delay_within : IsDelayWithin w.blur (link_at w i).least (link_at w i).most w.turnaround (clock_at w i) delay

-- The error of the time that is sent over the link at a place, in parts of 33550000 to a unit of 2^-16 ns: half of the
-- blur, which is that of its time stamp; at a bridge its time error too, and the error of the rate so far while it
-- keeps the time.
abbrev pub sent_error_at : Way → ℕ → ℕ
sent_error_at w zero = 33550000 * (32768 * w.blur)
sent_error_at w (suc i) =
    33550000 * (time_error_at w (suc i) + 32768 * w.blur) + rates_error_at w i * (w.residence + measured_jitter_at w i)

-- The correction that is sent over the link at a place is at most this either way, in units of 2^-16 ns: a nanosecond
-- from the root, and for each link and the bridge after it twice the time that passes there at most, with a turnaround.
-- Time stamps may make it negative where less time passes than they are off.
abbrev pub most_correction_at : Way → ℕ → ℕ
most_correction_at w i = 65536
    + total_below i (λ j. 131072 * (measured_most_at w j + w.turnaround + w.residence + measured_jitter_at w j + 1))

-- what the root tells at a time: what its clock shows, and its base, by which the one is ahead of the other
abbrev pub told_at : Way → (ℕ → ℕ) → ℤ → ℕ → ℤ
told_at w phase base t = shown_at w phase 0 t +ℤ base

-- What a Follow_Up tells is right, as its Sync is sent over the link at a place at that time, in ns: the root has a
-- base by which it tells time, origin and correction are what it tells then, less what time stamps are behind, and the
-- correction is what passed since the origin; the rate is the sum of the neighbour rates up to there, and a number of
-- 32 bits (IEEE 802.1AS-2020, 11.4.4).
pub record FollowUpIsRight (w : Way) (phase : ℕ → ℕ) (base : Option ℤ) (i : ℕ) (told : Relayed) (sent : ℕ) : Type 0
  where
    pub ahead : ℤ
    pub base_is : base ≡ Some ahead
    pub origin : IsTimestamp told.origin
    pub time : AreWithin (sent_error_at w i) (pos 33550000 *ℤ (scaled_of told.origin +ℤ told.correction))
        (pos 33550000 *ℤ (told_at w phase ahead sent -ℤ pos w.behind))
    pub least : neg_ℤ (pos (most_correction_at w i)) ≤ℤ told.correction
    pub small : told.correction ≤ℤ pos (most_correction_at w i)
    pub rate : AreWithin (total_below i (measured_error_at w)) told.rate (sum_below i (steady_rate_at w))
    pub fits : FitsRate told.rate

-- what a Follow_Up tells, and the time stamp of its Sync's ingress
abbrev pub info_of : Relayed → ℤ → SyncInfo
info_of told ingress =
    record { origin = told.origin; correction = told.correction; rate = told.rate; ingress = ingress }

-- what it told
abbrev pub follow_up_told : SyncInfo → Relayed
follow_up_told info = record { origin = info.origin; correction = info.correction; rate = info.rate }

-- what the root tells as a timestamp and a rest, at its own rate
abbrev pub root_time : Timestamp → ℕ → Relayed
root_time stamp rest = record { origin = stamp; correction = pos rest; rate = pos 0 }

-- what was told, at another rate
abbrev pub at_rate : Relayed → ℤ → Relayed
at_rate told rate = record told { rate = rate }

-- the sum of the rates up to the link at a place is far enough from the limits of 32 bits for a neighbour rate
abbrev pub IsModest : Way → ℕ → Type 0
IsModest w i = unsigned_abs (sum_below i (steady_rate_at w)) ≤ 1700000000

-- The rate to which the neighbour rate is added has a sum of 32 bits with it. It is the one that was told; or where the
-- sum of that hasn't, the one whose sum is held at the nearest limit (profile). Shown by rates_are_held; the sum is
-- modest on each way of a document, by ways_are_modest.
pub record IsHeldAt (w : Way) (i : ℕ) (told neighbour held : ℤ) : Type 0 where
  pub fits : FitsRate (held +ℤ neighbour)
  pub nearest : (held ≡ told) ⊎ (IsModest w i × (((held +ℤ neighbour ≡ pos 2147483647) × (held ≤ℤ told))
      ⊎ ((held +ℤ neighbour ≡ negsuc 2147483647) × (told ≤ℤ held))))
