-- Laws on what is told and known on a way, hop by hop.
use Rattle.std.specs.Prelude.{◌≡◌, ℕ, suc, ◌+◌, ◌-◌, ◌*◌, ◌^◌, ◌<◌, ◌≤◌, ℤ, pos, negsuc, ◌+ℤ◌, ◌-ℤ◌, Option, Some, length}
use Rattle.std.specs.Int.{int_max, int_min}
use Rattle.gptp_scaled.specs.Rate.{FitsRate, IsNeighborRate}
use Rattle.gptp_scaled.specs.Stamp.{Timestamp, IsSplit}
use Rattle.gptp_scaled.specs.Counts.{AreWithin}
use Rattle.gptp_pdelay.specs.Clock.{IsTime}
use Rattle.gptp_pdelay.specs.declared.exchange.Measurement.{Measurement}
use Rattle.gptp_correction.specs.declared.correction.Relayed.{Relayed}
use Rattle.gptp_correction.specs.Correction.{bridge, carried, carried_on, sync_received, relayed, BridgeFits}
use Rattle.gptp_pdelay_machine.specs.Setting.{IsByMost, Setting}
use Rattle.gptp_pdelay_machine.specs.Measured.{HasMeasured}
use Rattle.gptp_error_laws.specs.TimeError.{WayLink, Way, jitter_at, link_at, time_error_at}
use Rattle.gptp_error_laws.specs.WayLaws.{IsDocumented, IsReadAt, longer, shown_at}
use Rattle.gptp_sync_machine.specs.Right.{IsHeldAt, IsMeasuredAt, IsModest, FollowUpIsRight, at_rate, info_of, most_correction_at, root_time, told_at}

-- the time stamp of what the root tells as the Sync is sent is right
abbrev pub RootTellsRight : Type 0
RootTellsRight = (w : Way) (phase : ℕ → ℕ) (ahead said : ℤ) (stamp : Timestamp) (rest sent : ℕ)
    → AreWithin (32768 * w.blur) said (told_at w phase ahead sent -ℤ pos w.behind) → IsSplit said stamp rest
    → FollowUpIsRight w phase (Some ahead) 0 (root_time stamp rest) sent

-- On the way of a document with at most 10000 links the sum of the rates is far from the limits of 32 bits: without
-- jitter it is what the first and the last clock differ by, within 88000 units a link.
abbrev pub WaysAreModest : Type 0
WaysAreModest = (w : Way) (i : ℕ) → IsDocumented w → i ≤ length w.links → i ≤ 10000 → IsModest w i

-- where no link takes longer than a delay, corrections are no larger than that of so many links of it
abbrev pub CorrectionsAreSmall : Type 0
CorrectionsAreSmall = (w : Way) (longest i : ℕ) → ((j : ℕ) → j < i → (link_at w j).most ≤ longest)
    → most_correction_at w i ≤ 65536 + i * (131072 * (2 * longest + 3 * w.blur + w.turnaround + w.residence + 1))

-- The rate whose sum with the neighbour rate is the nearest number of 32 bits to that of the rate that was told is such
-- a rate; and so is the rate that was told, where that sum has 32 bits.
pub record RatesAreHeld : Type 0 where
  pub by_limits : (w : Way) (i : ℕ) (told neighbour : ℤ) → IsModest w i
      → IsHeldAt w i told neighbour
      (int_max (negsuc 2147483647) (int_min (told +ℤ neighbour) (pos 2147483647)) -ℤ neighbour)
  pub as_told : (w : Way) (i : ℕ) (told neighbour : ℤ) → FitsRate (told +ℤ neighbour)
      → IsHeldAt w i told neighbour told

-- what was told is right at the rate that is held, too
abbrev pub HeldIsRight : Type 0
HeldIsRight = (w : Way) (phase : ℕ → ℕ) (base : Option ℤ) (i : ℕ) (told : Relayed) (sent : ℕ) (neighbour held : ℤ)
    → IsNeighborRate neighbour → IsHeldAt w i told.rate neighbour held → FollowUpIsRight w phase base i told sent
    → FollowUpIsRight w phase base i (at_rate told held) sent

-- A Sync was sent over the link at a place at one time, and came at another, and what its Follow_Up told is right.
pub record IsOnWay (w : Way) (phase : ℕ → ℕ) (base : Option ℤ) (i : ℕ) (told : Relayed) (sent came : ℕ) : Type 0 where
  pub documented : IsDocumented w
  pub on_way : i < length w.links
  pub long : sent + (link_at w i).least ≤ came
  pub short : came ≤ sent + (link_at w i).most
  pub right : FollowUpIsRight w phase base i told sent

-- What a bridge tells is right, where what it knows was right as it was told, where it has measured the link well, and
-- where it keeps the Sync for at most the jitter and a residence: the jitter until the Follow_Up comes, and a residence
-- from then on. It stamps ingress and egress.
abbrev pub BridgeTellsRight : Type 0
BridgeTellsRight = (w : Way) (phase : ℕ → ℕ) (base : Option ℤ) (i : ℕ) (stamps : ℕ → ℤ) (told : Relayed)
    (sent came due : ℕ) (rate delay held : ℤ)
    → IsReadAt w phase (suc i) stamps → IsOnWay w phase base i told sent came → IsMeasuredAt w i rate delay
    → IsByMost came due (w.residence + jitter_at w i) → IsHeldAt w i told.rate rate held
    → let info = info_of (at_rate told held) (stamps came) in
    FollowUpIsRight w phase base (suc i) (relayed info (bridge info delay rate (stamps due))) due

-- all numbers by which a bridge sends a Sync on fit, where it has measured the link well, keeps the Sync for at most
-- the jitter and a residence, and the correction may have 63 bits
abbrev pub BridgeNumbersFit : Type 0
BridgeNumbersFit = (w : Way) (phase : ℕ → ℕ) (base : Option ℤ) (i : ℕ) (stamps : ℕ → ℤ) (told : Relayed)
    (sent came due : ℕ) (rate delay held : ℤ)
    → IsReadAt w phase (suc i) stamps → IsOnWay w phase base i told sent came → IsMeasuredAt w i rate delay
    → IsByMost came due (w.residence + jitter_at w i) → IsHeldAt w i told.rate rate held
    → most_correction_at w (suc i) < 2 ^ 63 → IsTime (stamps came) → IsTime (stamps due)
    → let info = info_of (at_rate told held) (stamps came) in
    let hop = bridge info delay rate (stamps due) in
    BridgeFits hop (carried_on (carried info) hop)

-- The offset that a system computes at a Follow_Up, which is the time stamp of its clock as the Sync came less the
-- root's time then, is within the time error of what its clock shows as the Follow_Up comes less what the root tells.
abbrev pub OffsetIsRight : Type 0
OffsetIsRight = (w : Way) (phase : ℕ → ℕ) (base : Option ℤ) (i : ℕ) (stamps : ℕ → ℤ) (told : Relayed)
    (sent came now : ℕ) (rate delay held : ℤ)
    → IsReadAt w phase (suc i) stamps → IsOnWay w phase base i told sent came → IsMeasuredAt w i rate delay
    → IsHeldAt w i told.rate rate held → came ≤ now → now ≤ sent + (link_at w i).most
    → let ingress = stamps came in
    (ahead : ℤ) × (base ≡ Some ahead)
    × AreWithin (time_error_at w (suc i)) (ingress -ℤ sync_received (info_of (at_rate told held) ingress) delay rate)
    (shown_at w phase (suc i) now -ℤ told_at w phase ahead now)

-- what is right on a way is right where the way goes on
abbrev pub RightStays : Type 0
RightStays = (w : Way) (l : WayLink) (phase phase' : ℕ → ℕ) (base : Option ℤ) (i : ℕ) (told : Relayed) (sent : ℕ)
    → i ≤ length w.links → phase' 0 ≡ phase 0 → FollowUpIsRight w phase base i told sent
    → FollowUpIsRight (longer w l) phase' base i told sent

-- A port measures the link at a place: delays and parameters are those of the way, whose interval is that of a window,
-- and the clocks of the way are stamped. An exchange leaves 12 times the blur to the one that is measured after it.
pub record MeasuresOnWay (k : Setting) (w : Way) (phase : ℕ → ℕ) (i : ℕ) : Type 0 where
  pub documented : IsDocumented w
  pub on_way : i < length w.links
  pub order : (link_at w i).least ≤ k.most
  pub most : k.most ≡ (link_at w i).most
  pub turnaround : k.turnaround ≡ w.turnaround
  pub interval : k.window * k.period ≡ w.interval
  pub rested : 12 * w.blur ≤ w.interval - (2 * k.most + k.turnaround)
  pub asking : IsReadAt w phase (suc i) k.asking_clock
  pub answering : IsReadAt w phase i k.answering_clock

-- what such a port has measured, once that is of two exchanges, a window apart, is right
abbrev pub ExchangesMeasureRight : Type 0
ExchangesMeasureRight = (k : Setting) (w : Way) (phase : ℕ → ℕ) (i : ℕ) (last : Option Measurement)
    → MeasuresOnWay k w phase i → HasMeasured k (link_at w i).least last
    → (m : Measurement) × (last ≡ Some m) × IsMeasuredAt w i m.rate m.delay
