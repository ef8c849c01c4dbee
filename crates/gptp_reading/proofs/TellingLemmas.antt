-- What is read at a system that follows its parent, from a Follow_Up that it uses.
use Rattle.std.proofs.Common.{◌≡◌, ◌<◌, ◌≤◌, ◌+◌, ◌*◌, ◌-◌, ◌^◌, ℕ, suc, ℤ, pos, ◌+ℤ◌, ◌-ℤ◌, ◌*ℤ◌, List, ◌∷◌, Option, Some, None, sym, ap, subst, ◌∙◌, inl, inr, arith}
use Rattle.std.proofs.lemmas.Int.{ints}
use Rattle.gptp_graph.specs.Snapshot.{PortIdentity}
use Rattle.gptp_scaled.specs.Interval.{FitsInterval}
use Rattle.gptp_scaled.specs.Rate.{FitsRate, scaled_by}
use Rattle.gptp_scaled.specs.ScaledNs.{FitsScaled}
use Rattle.gptp_scaled.specs.Stamp.{IsTimestamp}
use Rattle.gptp_pdelay.specs.Clock.{IsTime}
use Rattle.gptp_scaled.specs.Counts.{AreWithin}
use Rattle.gptp_correction.specs.declared.correction.Relayed.{Relayed}
use Rattle.gptp_correction.specs.declared.sync_in.SyncInfo.{SyncInfo}
use Rattle.gptp_correction.specs.Correction.{bridge, link_time, passage}
use Rattle.gptp_system.specs.Syncing.{OffsetFits}
use Rattle.gptp_pdelay_machine.specs.Lanes.{LaneFrame}
use Rattle.gptp_error_laws.specs.TimeError.{measured_jitter_at, rates_error_at, time_error_at}
use Rattle.gptp_sync_machine.specs.Messages.{Message, Sync, FollowUp, IsOneMessage}
use Rattle.gptp_sync_machine.specs.Right.{IsHeldAt, IsMeasuredAt, FollowUpIsRight, at_rate, info_of, most_correction_at}
use Rattle.gptp_sync_machine.specs.RightLaws.{IsOnWay}
use Rattle.gptp_sync_machine.specs.Follower.{Follower, IsSetting, FollowerSync, FollowerSetting, from, own_clock, root_told}
use Rattle.gptp_sync_machine.specs.Flows.{AreCarried, Arrival, FramesFlow}
use Rattle.gptp_sync_machine.specs.Acts.{kept_at_ingress}
use Rattle.gptp_sync_machine.specs.Invariant.{FollowerInvariant, IsKept}
use Rattle.gptp_sync_machine.proofs.RightLemmas.{bridge_numbers_fit}
use Rattle.gptp_reading.specs.Reading.{read_after}
use Rattle.gptp_reading.proofs.WayLemmas.{later_within, reading_is_right}
use Rattle.gptp_reading.specs.ReadingLaws.{IsBehindBy}

-- what is known was told on the way
on_way : (k : FollowerSetting) (told : Relayed) (sent came heard : ℕ) → IsSetting k → AreCarried k sent came heard
    → FollowUpIsRight k.way k.phase k.base k.place told sent → IsOnWay k.way k.phase k.base k.place told sent came
on_way k told sent came heard is carried right = record {
  documented = is.documented;
  on_way = is.on_way;
  long = carried.long;
  short = omega (arith, carried.behind, carried.short);
  right = right;
}

-- ---- as it was sent

-- What a Follow_Up tells that comes then was right as it was sent, and the ingress of its Sync is the time stamp of the
-- own clock as that came.
pub record IsAsSent (k : FollowerSetting) (told : Relayed) (ingress : ℤ) (heard : ℕ) : Type 0 where
  pub sent : ℕ
  pub came : ℕ
  pub carried : AreCarried k sent came heard
  pub right : FollowUpIsRight k.way k.phase k.base k.place told sent
  pub ingress_is : ingress ≡ k.stamps came

module _ (k : FollowerSetting) (says : List ℕ → Message → Type 0) where
  pub told_as_sent : (s : Follower) (front : LaneFrame) (rest : List LaneFrame) (source : PortIdentity)
      (sequence : ℕ) (told : Relayed) (ingress : ℤ)
      → FollowerInvariant k says s
      → s.lane ≡ front ∷ rest → front.due ≡ s.time → from k ≤ s.time
      → IsOneMessage says front.octets (FollowUp source sequence told)
      → s.kept ≡ Some (kept_at_ingress source sequence ingress)
      → IsAsSent k told ingress s.time
  told_as_sent s front rest source sequence told ingress inv was now late one keeps =
      by_frame inv.arrival inv.is_kept (subst (λ fs. FramesFlow k says inv.arrival fs) was inv.flows)
    where
      by_frame : (a : Option Arrival) → IsKept k a s.kept → FramesFlow k says a (front ∷ rest)
          → IsAsSent k told ingress s.time
      by_frame a at (inl (old, behind)) = absurd (omega (arith, old, now, late))
      by_frame a at (inr (inl (mute, behind))) = absurd (mute (FollowUp source sequence told) one.said)
      by_frame a at (inr (inr (inl (sequence', said, behind)))) =
          absurd (other (one.only (Sync k.parent sequence') said))
        where
          other : Sync k.parent sequence' ≡ FollowUp source sequence told → ⊥
          other e = absurd cc
      by_frame None at (inr (inr (inr (sequence', told', said, is_told, behind)))) = absurd (none is_told.kept_is)
        where
          none : {a : Arrival} → None ≡ Some a → ⊥
          none e = absurd cc
      by_frame (Some a) at (inr (inr (inr (sequence', told', said, is_told, behind)))) =
          record {
            sent = is_told.sent;
            came = is_told.came;
            carried = subst (λ t. AreCarried k is_told.sent is_told.came t) now is_told.carried;
            right = subst (λ (m : Relayed). FollowUpIsRight k.way k.phase k.base k.place m is_told.sent)
                (told_is (one.only (FollowUp k.parent sequence' told') said)) is_told.right;
            ingress_is = ingress_is (sym keeps ∙ at) ∙ ap k.stamps (came_is is_told.kept_is);
          }
        where
          told_is : FollowUp k.parent sequence' told' ≡ FollowUp source sequence told → told' ≡ told
          told_is e = cc

          came_is : {c : Arrival} → Some a ≡ Some c → a.came ≡ c.came
          came_is e = cc

          ingress_is : Some (kept_at_ingress source sequence ingress) ≡ Some
              (kept_at_ingress k.parent a.sequence (k.stamps a.came))
              → ingress ≡ k.stamps a.came
          ingress_is e =
              let same : kept_at_ingress source sequence ingress ≡ kept_at_ingress k.parent a.sequence
              (k.stamps a.came) = cc in
              ap (λ (sync : FollowerSync). sync.ingress) same

  pub reading_is_exact : (s : Follower) (front : LaneFrame) (rest : List LaneFrame) (source : PortIdentity)
      (sequence : ℕ) (told : Relayed) (ingress rate delay held : ℤ) (later g : ℕ)
      → IsBehindBy k.way g → IsSetting k → FollowerInvariant k says s
      → s.lane ≡ front ∷ rest → front.due ≡ s.time → from k ≤ s.time
      → IsOneMessage says front.octets (FollowUp source sequence told)
      → s.kept ≡ Some (kept_at_ingress source sequence ingress) → IsMeasuredAt k.way k.place rate delay
      → IsHeldAt k.way k.place told.rate rate held
      → (ahead : ℤ) × (k.base ≡ Some ahead)
      × AreWithin (33550000 * time_error_at k.way (suc k.place)
      + rates_error_at k.way k.place * (later + measured_jitter_at k.way k.place))
      (pos 33550000
      *ℤ read_after (info_of (at_rate told held) ingress) delay rate (own_clock k (s.time + later) -ℤ ingress))
      (pos 33550000 *ℤ root_told k ahead (s.time + later))
  reading_is_exact s front rest source sequence told ingress rate delay held later g behind is inv was now late one
      keeps measured held_at =
      let t = told_as_sent s front rest source sequence told ingress inv was now late one keeps in
      let carried = t.carried in
      let right = reading_is_right k.way g k.phase k.base k.place k.stamps told t.sent t.came (s.time + later) rate
      delay held behind is.read (on_way k told t.sent t.came s.time is carried t.right) measured held_at
      (omega (arith, carried.behind)) in
      let wide = later_within (33550000 * time_error_at k.way (suc k.place)) (rates_error_at k.way k.place)
      (s.time + later - t.came + k.way.blur) (later + measured_jitter_at k.way k.place)
      (pos 33550000
      *ℤ read_after (info_of (at_rate told held) (k.stamps t.came)) delay rate
      (own_clock k (s.time + later) -ℤ k.stamps t.came))
      (pos 33550000 *ℤ root_told k right.0 (s.time + later))
      (omega (arith, carried.long, carried.behind, carried.short)) right.2 in (
        right.0,
        right.1,
        subst (λ x. AreWithin (33550000 * time_error_at k.way (suc k.place)
            + rates_error_at k.way k.place * (later + measured_jitter_at k.way k.place))
            (pos 33550000
            *ℤ read_after (info_of (at_rate told held) x) delay rate (own_clock k (s.time + later) -ℤ x))
            (pos 33550000 *ℤ root_told k right.0 (s.time + later))) (sym t.ingress_is) wide,
      )

-- ---- the numbers of an offset fit

same_passage : (x y : ℤ) → x -ℤ (x -ℤ y) ≡ y
same_passage x y = omega (arith, ints)

-- the time that came, and what the own clock is ahead of it, where what is added to the origin has 64 bits
sums_fit : (info : SyncInfo) (delay rate : ℤ) → FitsScaled (link_time delay rate) → FitsRate (info.rate +ℤ rate)
    → FitsScaled (scaled_by (info.rate +ℤ rate) (link_time delay rate))
    → FitsInterval (info.correction +ℤ scaled_by (info.rate +ℤ rate) (link_time delay rate))
    → info.origin.seconds < 2 ^ 48 → info.origin.nanos < 1000000000 → IsTime info.ingress
    → OffsetFits info delay rate
sums_fit info delay rate link fits scaled carries seconds nanos shown = record {
  receipt = record {
    link = link;
    rate = fits;
    scaled = scaled;
    sum = record { low = omega (arith, ints, carries); high = omega (arith, ints, carries, seconds, nanos) };
  };
  offset = record {
    low = omega (arith, ints, carries, seconds, nanos, shown.low);
    high = omega (arith, ints, carries, shown.high);
  };
}

pub offset_fits : (k : FollowerSetting) (told : Relayed) (ingress rate delay held : ℤ) (heard : ℕ) → IsSetting k
    → (t : IsAsSent k told ingress heard) → IsMeasuredAt k.way k.place rate delay
    → IsHeldAt k.way k.place told.rate rate held → most_correction_at k.way (suc k.place) < 2 ^ 63
    → IsTime (k.stamps t.came) → IsTimestamp told.origin
    → OffsetFits (info_of (at_rate told held) ingress) delay rate
offset_fits k told ingress rate delay held heard is t measured held_at short shown stamp =
    let own = k.stamps t.came in
    let info = info_of (at_rate told held) own in
    let fits = bridge_numbers_fit k.way k.phase k.base k.place k.stamps told t.sent t.came t.came rate delay held
    is.read (on_way k told t.sent t.came heard is t.carried t.right) measured (omega arith, omega arith) held_at short
    shown shown in
    let same : scaled_by (held +ℤ rate) (passage (bridge info delay rate own))
    ≡ scaled_by (held +ℤ rate) (link_time delay rate) =
    ap (λ x. scaled_by (held +ℤ rate) x) (same_passage own (link_time delay rate)) in
    let scaled : FitsScaled (scaled_by (held +ℤ rate) (link_time delay rate)) = subst FitsScaled same fits.scaled in
    let carries : FitsInterval (told.correction +ℤ scaled_by (held +ℤ rate) (link_time delay rate)) =
    subst (λ x. FitsInterval (told.correction +ℤ x)) same fits.correction in
    let seconds = stamp.seconds in
    let nanos = stamp.nanos in
    subst (λ x. OffsetFits (info_of (at_rate told held) x) delay rate) (sym t.ingress_is)
    (sums_fit info delay rate fits.link fits.rate scaled carries seconds nanos shown)
