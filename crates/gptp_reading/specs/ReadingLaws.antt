-- How exact what is read is: over one link, on a way, and at a system that follows its parent.
use Rattle.std.specs.Prelude.{◌≡◌, ℕ, suc, ◌+◌, ◌-◌, ◌*◌, ◌≤◌, ℤ, pos, ◌+ℤ◌, ◌-ℤ◌, ◌*ℤ◌, List, ◌∷◌, Option, Some}
use Rattle.gptp_graph.specs.Snapshot.{PortIdentity}
use Rattle.gptp_scaled.specs.Counts.{AreWithin, IsClockRate, IsCounted}
use Rattle.gptp_scaled.specs.Stamp.{scaled_of}
use Rattle.gptp_correction.specs.declared.correction.Relayed.{Relayed}
use Rattle.gptp_correction.specs.declared.sync_in.SyncInfo.{SyncInfo}
use Rattle.gptp_pdelay_machine.specs.Lanes.{LaneFrame}
use Rattle.gptp_error_laws.specs.HopLaws.{IsOverLink, IsRateBehind}
use Rattle.gptp_error_laws.specs.TimeError.{Way, hop_error, measured_jitter_at, rates_error_at, time_error_at}
use Rattle.gptp_error_laws.specs.WayLaws.{IsReadAt, shown_at}
use Rattle.gptp_sync_machine.specs.Acts.{kept_at_ingress}
use Rattle.gptp_sync_machine.specs.Follower.{Follower, IsSetting, FollowerSetting, from, own_clock, root_told}
use Rattle.gptp_sync_machine.specs.Invariant.{FollowerInvariant}
use Rattle.gptp_sync_machine.specs.Messages.{Message, FollowUp, IsOneMessage}
use Rattle.gptp_sync_machine.specs.Right.{IsHeldAt, IsMeasuredAt, at_rate, info_of, told_at}
use Rattle.gptp_sync_machine.specs.RightLaws.{IsOnWay}
use Rattle.gptp_system.specs.Reading.{read_at}
use Rattle.gptp_system.specs.State.{SystemState, local_time}
use Rattle.gptp_system.specs.declared.reading.Reading.{Reading}
use Rattle.gptp_system.specs.Syncing.{held_reading}
use Rattle.gptp_reading.specs.Reading.{read_after, reading}

-- What is read so long after a Sync came over a link is the root's time then. What was read of the own clock at the
-- ingress is of one that is 32768 g units behind the one by which is read, and half of w off: so the root's time is
-- that of such a clock, too. It is within half of w less than the link's part of the time error, within the error of
-- the rate from above times the greatest delay and w, and within that of the rate after the link times the span and w,
-- the last two in parts of 33550000 ns to a unit. The span may be of any length.
abbrev pub ReadingIsWithin : Type 0
ReadingIsWithin = (w g least most turnaround root up own above behind delay span count passed : ℕ) (off : ℤ)
    (s : SyncInfo) (link_delay neighbour : ℤ)
    → IsOverLink w least most turnaround root up above s.rate neighbour link_delay
    → IsRateBehind root own behind (s.rate +ℤ neighbour) → IsClockRate own → g ≤ w → least ≤ delay → delay ≤ most
    → IsCounted own span count → AreWithin (32768 * w) off (pos 0) → IsCounted root (delay + span) passed
    → AreWithin (33550000 * (hop_error (most - least + 2 * w) (most + w) turnaround - 32768 * w) + above * (most + w)
    + behind * (span + w))
    (pos 33550000 *ℤ (read_after s link_delay neighbour (pos (count + 32768 * g) +ℤ off)
    -ℤ (scaled_of s.origin +ℤ s.correction))) (pos (33550000 * (passed + 32768 * g)))

-- time stamps are behind by half of so many ns, which are no more than the blur
pub record IsBehindBy (w : Way) (g : ℕ) : Type 0 where
  pub half : w.behind ≡ 32768 * g
  pub fine : g ≤ w.blur

-- Where what was told on a way was right, what is read so long after the Sync came is within the time error there, and
-- within the error of the rate so far times that span and the blur. The ingress is a time stamp, and what is read later
-- is what the own clock then shows. So what time stamps are behind is made up for.
abbrev pub ReadingIsRight : Type 0
ReadingIsRight = (w : Way) (g : ℕ) (phase : ℕ → ℕ) (base : Option ℤ) (i : ℕ) (stamps : ℕ → ℤ) (told : Relayed)
    (sent came now : ℕ) (rate delay held : ℤ)
    → IsBehindBy w g → IsReadAt w phase (suc i) stamps → IsOnWay w phase base i told sent came
    → IsMeasuredAt w i rate delay → IsHeldAt w i told.rate rate held → came ≤ now
    → let ingress = stamps came in
    (ahead : ℤ) × (base ≡ Some ahead)
    × AreWithin (33550000 * time_error_at w (suc i) + rates_error_at w i * (now - came + w.blur))
    (pos 33550000
    *ℤ read_after (info_of (at_rate told held) ingress) delay rate (shown_at w phase (suc i) now -ℤ ingress))
    (pos 33550000 *ℤ told_at w phase ahead now)

-- At each Follow_Up that belongs to the Sync that is kept, from when on what comes is right: what is read from it at
-- any later time is within the time error, and within the error of the rate so far times the span since, to which the
-- jitter of the link as it is measured is added.
abbrev pub ReadingIsExact : (List ℕ → Message → Type 0) → Type 0
ReadingIsExact says = (k : FollowerSetting) (s : Follower) (front : LaneFrame) (rest : List LaneFrame)
    (source : PortIdentity)
    (sequence : ℕ) (told : Relayed) (ingress rate delay held : ℤ) (later g : ℕ)
    → IsBehindBy k.way g → IsSetting k → FollowerInvariant k says s
    → s.lane ≡ front ∷ rest → front.due ≡ s.time → from k ≤ s.time
    → IsOneMessage says front.octets (FollowUp source sequence told)
    → s.kept ≡ Some (kept_at_ingress source sequence ingress) → IsMeasuredAt k.way k.place rate delay
    → IsHeldAt k.way k.place told.rate rate held
    → (ahead : ℤ) × (k.base ≡ Some ahead)
    × AreWithin (33550000 * time_error_at k.way (suc k.place)
    + rates_error_at k.way k.place * (later + measured_jitter_at k.way k.place))
    (pos 33550000
    *ℤ read_after (info_of (at_rate told held) ingress) delay rate (own_clock k (s.time + later) -ℤ ingress))
    (pos 33550000 *ℤ root_told k ahead (s.time + later))

-- what a system holds of the Follow_Up that it used last is what it reads by
abbrev pub HeldIsRead : Type 0
HeldIsRead = (s : SystemState) (time : ℕ) (r : Reading) → held_reading s ≡ Some r
    → reading s time ≡ Some (read_at r (local_time s time))
