-- What one exchange of messages measures (IEEE 802.1AS-2020, 11.2.19.3).
use Rattle.std.specs.Prelude.{ℕ, ◌+◌, ◌*◌, ◌^◌, ℤ, pos, neg_ℤ, ◌+ℤ◌, ◌-ℤ◌, ◌≤ℤ◌, ◌<ℤ◌, Bool, ◌&&◌, int_le, List, [], ◌∷◌, Option, Some, None}
use Rattle.std.specs.Int.{int_max}
use Rattle.gptp_scaled.specs.Floor.{floor_div}
use Rattle.gptp_scaled.specs.Rate.{IsNeighborRate, scaled_by, rate_of}
use Rattle.gptp_scaled.specs.Stamp.{Timestamp, scaled_of}
use Rattle.gptp_pdelay.specs.Clock.{IsTime}
use Rattle.gptp_pdelay.specs.declared.exchange.Measurement.{Measurement}
use Rattle.gptp_pdelay.specs.declared.exchange.Times.{Times}
use Rattle.gptp_pdelay.specs.declared.progress.Request.{Request}
use Rattle.gptp_pdelay.specs.declared.progress.Response.{Response}

-- the time that a message carries: its timestamp, and its correctionField for the part below one nanosecond (profile)
abbrev pub carried_time : Timestamp → ℤ → ℤ
carried_time stamp correction = scaled_of stamp +ℤ correction

-- the range of such a time, since any message may be heard
pub record IsCarriedTime (t : ℤ) : Type 0 where
  pub low : neg_ℤ (pos (2 ^ 63)) ≤ℤ t
  pub high : t <ℤ pos (2 ^ 48 * 1000000000 * 2 ^ 16 + 2 ^ 63)

-- The delay of the link, in units of 2^-16 ns: half of what passed on the requester's clock, from sending the
-- request to receiving the response and brought to the responder's rate, less what passed on the responder's clock
-- from receiving the request to sending the response (11.2.19.3.4). It is rounded down, and 0 where that is
-- negative (profile).
abbrev pub mean_delay : ℤ → ℤ → ℤ → ℤ
mean_delay rate requester responder = int_max (pos 0) (floor_div (scaled_by rate requester -ℤ responder) (pos 2))

-- The rate of the responder's clock against the requester's, by what passed on both since an earlier exchange
-- (11.2.19.3.3); 0 where there is none (profile).
abbrev pub neighbor_rate : Option Times → ℤ → ℤ → ℤ
neighbor_rate None t3 t4 = pos 0
neighbor_rate (Some since) t3 t4 = rate_of (t3 -ℤ since.t3) (t4 -ℤ since.t4)

-- the oldest of some exchanges, the newest first
abbrev pub oldest : List Times → Option Times
oldest [] = None
oldest (t ∷ []) = Some t
oldest (t ∷ (u ∷ ts)) = oldest (u ∷ ts)

-- what a full exchange measures: the rate since an earlier one, and whether another came before it since the reset
abbrev pub measurement_of : Option Times → Bool → Request → Response → ℤ → Measurement
measurement_of since again request response t3 =
    let rate = neighbor_rate since t3 response.t4 in
    record {
      t3 = t3;
      t4 = response.t4;
      rate = rate;
      delay = mean_delay rate (response.t4 -ℤ request.t1) (t3 -ℤ response.t2);
      again = again;
    }

-- those of its times that later ones need
abbrev pub times_of : Measurement → Times
times_of m = record { t3 = m.t3; t4 = m.t4 }

-- a delay is at most the threshold, which is in ns
abbrev pub IsWithinThreshold : ℕ → ℤ → Type 0
IsWithinThreshold threshold delay = delay ≤ℤ pos (65536 * threshold)

-- An exchange shows that the neighbour is there and near: it isn't the first since the reset, and its delay is at
-- most the threshold (profile, for 11.2.2).
abbrev pub shows_neighbor : ℕ → Measurement → Bool
shows_neighbor threshold m = m.again && int_le m.delay (pos (65536 * threshold))

-- what such times can be
pub record AreTimes (t : Times) : Type 0 where
  pub t3 : IsCarriedTime t.t3
  pub t4 : IsTime t.t4

-- what the times, the delay and the rate of a measurement can be
pub record IsMeasured (m : Measurement) : Type 0 where
  pub t3 : IsCarriedTime m.t3
  pub t4 : IsTime m.t4
  pub delay : pos 0 ≤ℤ m.delay
  pub rate : IsNeighborRate m.rate

-- every neighbour rate is within 200 parts in a million, whatever the times
abbrev pub NeighborRateIsWithin : Type 0
NeighborRateIsWithin = (since : Option Times) (t3 t4 : ℤ) → IsNeighborRate (neighbor_rate since t3 t4)
