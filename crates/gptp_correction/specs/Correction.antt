-- What a bridge sends on, and what a slave reads.
use Rattle.std.specs.Prelude.{ℤ, pos, negsuc, ◌+ℤ◌, ◌-ℤ◌}
use Rattle.std.specs.Int.{int_max, int_min}
use Rattle.gptp_scaled.specs.ScaledNs.{FitsScaled}
use Rattle.gptp_scaled.specs.Interval.{FitsInterval}
use Rattle.gptp_scaled.specs.Rate.{FitsRate, scaled_by, unscaled_by}
use Rattle.gptp_scaled.specs.Stamp.{scaled_of}
use Rattle.gptp_correction.specs.declared.sync_in.SyncInfo.{SyncInfo}
use Rattle.gptp_correction.specs.declared.correction.Hop.{Hop}
use Rattle.gptp_correction.specs.declared.correction.Relayed.{Relayed}
use Rattle.gptp_correction.specs.declared.correction.Carried.{Carried}

-- what is carried to a system beside the origin
abbrev pub carried : SyncInfo → Carried
carried s = record { correction = s.correction; rate = s.rate }

-- the hop of a bridge that sends on at `egress`
abbrev pub bridge : SyncInfo → ℤ → ℤ → ℤ → Hop
bridge s delay neighbour egress = record { delay = delay; neighbour = neighbour; ingress = s.ingress; egress = egress }

-- the Integer32 that is nearest to a number
abbrev pub nearest_rate : ℤ → ℤ
nearest_rate z = int_max (negsuc 2147483647) (int_min z (pos 2147483647))

-- What a Sync and its Follow_Up say, with another rate: the one whose sum with the neighbour's rate is held at the
-- limits of Integer32. Where the sum of the rate received is an Integer32 nothing changes (profile).
abbrev pub held_sum : SyncInfo → ℤ → SyncInfo
held_sum s neighbour = record s { rate = nearest_rate (s.rate +ℤ neighbour) -ℤ neighbour }

-- how long a Sync was on the link, by the own clock: the mean link delay divided by the neighbour's rate
abbrev pub link_time : ℤ → ℤ → ℤ
link_time delay neighbour = unscaled_by neighbour delay

-- when the neighbour sent it, by the own clock (upstreamTxTime; IEEE 802.1AS-2020, 11.2.14.2.1)
abbrev pub upstream_time : Hop → ℤ
upstream_time h = h.ingress -ℤ link_time h.delay h.neighbour

-- how long it took from the neighbour's egress to the own, by the own clock
abbrev pub passage : Hop → ℤ
passage h = h.egress -ℤ upstream_time h

-- What a bridge sends on: the neighbour's rate is added to the rate (IEEE 802.1AS-2020, 10.2.8), and the passage, at
-- that rate, to the correction (11.2.15).
abbrev pub carried_on : Carried → Hop → Carried
carried_on c h =
    let rate = c.rate +ℤ h.neighbour in record { correction = c.correction +ℤ scaled_by rate (passage h); rate = rate }

-- the Follow_Up of a bridge: the origin as it came, and what is carried on
abbrev pub relayed : SyncInfo → Hop → Relayed
relayed s h =
    let sent = carried_on (carried s) h in record { origin = s.origin; correction = sent.correction; rate = sent.rate }

-- the numbers that a bridge names fit, where this is what it sends on
pub record BridgeFits (h : Hop) (sent : Carried) : Type 0 where
  pub link : FitsScaled (link_time h.delay h.neighbour)
  pub upstream : FitsScaled (upstream_time h)
  pub rate : FitsRate sent.rate
  pub between : FitsScaled (passage h)
  pub scaled : FitsScaled (scaled_by sent.rate (passage h))
  pub correction : FitsInterval sent.correction

-- the numbers of a relay fit
abbrev pub RelayFits : SyncInfo → Hop → Type 0
RelayFits s h = BridgeFits h (carried_on (carried s) h)

-- What a slave reads: the origin, what was carried to it, and the time on its link at the summed rate (IEEE
-- 802.1AS-2020, 10.2.13, syncReceiptTime).
abbrev pub receipt : ℤ → Carried → ℤ → ℤ → ℤ
receipt origin c delay neighbour =
    (origin +ℤ c.correction) +ℤ scaled_by (c.rate +ℤ neighbour) (link_time delay neighbour)

-- the numbers that a slave names fit
pub record SlaveFits (origin : ℤ) (c : Carried) (delay neighbour : ℤ) : Type 0 where
  pub link : FitsScaled (link_time delay neighbour)
  pub rate : FitsRate (c.rate +ℤ neighbour)
  pub scaled : FitsScaled (scaled_by (c.rate +ℤ neighbour) (link_time delay neighbour))
  pub sum : FitsScaled (receipt origin c delay neighbour)

-- when the Sync came, by the grandmaster's clock
abbrev pub sync_received : SyncInfo → ℤ → ℤ → ℤ
sync_received s delay neighbour = receipt (scaled_of s.origin) (carried s) delay neighbour

-- the numbers of a receipt time fit
abbrev pub ReceiptFits : SyncInfo → ℤ → ℤ → Type 0
ReceiptFits s delay neighbour = SlaveFits (scaled_of s.origin) (carried s) delay neighbour
